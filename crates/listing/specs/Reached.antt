-- How far a listing is, as the code holds it: the lines that wait, and what is held at the front of its array.
use Rattle.std.specs.Prelude.{take}
use Rattle.listing.specs.Standing.{Standing}
use Rattle.listing.specs.declared.Listing.{Listing}

abbrev pub standing : Listing → Standing
standing l = record { waiting = l.waiting.items; held = take l.count l.held }
