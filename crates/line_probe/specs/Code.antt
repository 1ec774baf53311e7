-- The struct of the code as the numbers of `Numbers.antt`.
use Rattle.line_probe.specs.Numbers as answer
use Rattle.line_probe.specs.declared.numbers.Numbers.{Numbers}

abbrev pub numbers_in : Numbers → answer.Numbers
numbers_in n = answer.numbers n.rule n.kind n.seq n.len n.taken n.held
