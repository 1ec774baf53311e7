-- `live_changes::Live::without` meets its contract. The invariant: the data of the requests behind the row have moved up, as far as into the room before i.
use Rattle.live_changes.proofs.Becoming.{RoomsMoved}
use Rattle.live_changes.proofs.Live.without.Given as goal

abbrev pub invariant-loop-i : goal.invariant-loop-i
invariant-loop-i l = RoomsMoved l.requests.rows l.row l.initial.store l.store l.i
