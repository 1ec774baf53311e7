-- The struct of the code as the numbers of `Numbers.antt`.
use Rattle.c_api.specs.Numbers as answer
use Rattle.c_api.specs.declared.numbers.Numbers.{Numbers}

abbrev pub numbers_in : Numbers → answer.Numbers
numbers_in n = answer.numbers n.rule n.kind n.seq n.payload n.len n.dropped n.removed
