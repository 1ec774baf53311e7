-- What a program says on standard error where reading or writing stopped.
use Rattle.std.specs.Prelude.{ℕ, List}
use Rattle.texts.specs.Text.{ascii}
use Rattle.streams.specs.declared.failure.Failure.{Failure}
use Rattle.streams.specs.declared.failure.Failure.TheVariants.{Read, Write, Endless}

unfoldable pub said : Failure → List ℕ
said Read = ascii "reading standard input failed"
said Write = ascii "writing standard output failed"
said Endless = ascii "standard input does not end"
