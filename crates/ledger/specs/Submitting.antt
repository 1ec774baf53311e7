-- Document 01, "Submit (fields, data, response wanted or not, clock)".
use Rattle.std.specs.Prelude.{ℕ, zero, suc, Bool, false, ◌||◌, cond as if, List, [], ◌∷◌, ◌++◌, eqb, length}
use Rattle.command.specs.Payload.{Fields}
use Rattle.ledger.specs.Parts.{Request, Ledger, queued}
use Rattle.ledger.specs.Answers.{Done, submitted}

-- "after 65535": the last request ID
abbrev pub last_id : ℕ
last_id = 65535

-- "after 65535 comes R + 1; ID 0 is never issued"
unfoldable pub id_after : (reserved id : ℕ) → ℕ
id_after r id = if (eqb id last_id) (suc r) (suc id)

-- whether an ID is live
unfoldable pub is_live : ℕ → List Request → Bool
is_live id [] = false
is_live id (q ∷ qs) = eqb q.id id || is_live id qs

-- the first ID not live, from one on, where so many may be passed over
unfoldable pub first_free : (passed reserved : ℕ) → List Request → (id : ℕ) → ℕ
first_free zero r live id = id
first_free (suc n) r live id = if (is_live id live) (first_free n r live (id_after r id)) id

-- "The ID is the first one not live, from the next request ID on": no more are passed over than are live
-- (theorem `issued_not_live`)
abbrev pub issued : Ledger → ℕ
issued l = first_free (length l.live) l.reserved l.live l.next_id

-- "The next request ID is then the one after it. The request joins as queued."
abbrev pub submit : Ledger → Fields → (bytes : List ℕ) (wanted : Bool) (clock : ℕ) → Done
submit l fields bytes wanted clock = record {
  answer = submitted (issued l);
  buffers = [];
  next = record {
    reserved = l.reserved;
    clock = clock;
    next_seq = l.next_seq;
    next_id = id_after l.reserved (issued l);
    seen = l.seen;
    live =
        l.live ++ (record { id = issued l; fields = fields; bytes = bytes; wanted = wanted; state = queued } ∷ []);
    held = l.held;
  };
}
