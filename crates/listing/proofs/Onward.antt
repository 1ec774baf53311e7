-- Piece after piece: what they come to one after the other is what the bytes joined come to.
use Prim.Native.Nat.{ℕ}
use mathlib.Core.Bool.{Bool, true, false, true≢false}
use mathlib.Core.List.{List, [], ◌∷◌, ◌++◌, append_assoc}
use mathlib.Core.Path.{◌≡◌, refl, sym, ap, ◌∙◌}
use native.Mathlib.Omega.{arith}
use lib.ListN.{length, length-append}
use Rattle.std.specs.Prelude.{Option, Result, Ok, Err, OnErr, MatchResult}
use Rattle.std.specs.Result.{is_err, IsErrAnd}
use Rattle.std.proofs.KnownBytes.{Appends-nil, Appends-trans, Appends-kept, Consumes-nil, Consumes-trans, Consumes-kept}
use Rattle.message.specs.Items.{Item}
use Rattle.line.specs.Cuts.{Found, found, handed_each, joined}
use Rattle.line.proofs.Handed.{handed_joined}
use Rattle.line.proofs.Laws.{cuts}
use Rattle.listing_lines.specs.Waiting.{writes, waits, writes_after, waits_after}
use Rattle.listing.specs.Moving.{Moves, Rests, MovesSome, MovesAll}
use Rattle.listing.specs.Promises.{Fails, ListsSome, ListsAll}
use Rattle.listing.specs.Standing.{items_of, Standing, fresh, listed, writes_in}
use Rattle.streams.specs.declared.failure.Failure.{Failure}
use Rattle.streams.specs.declared.failure.Failure.TheVariants.{Read, Write, Endless}

waits_on : (room : ℕ) (waiting : List ℕ) (a b : List Item)
    → waits_after room waiting (a ++ b) ≡ waits_after room (waits_after room waiting a) b
unfolding waits_after
waits_on room waiting [] b = refl
waits_on room waiting (i ∷ a) b = waits_on room (waits room waiting i) a b

writes_on : (room : ℕ) (waiting : List ℕ) (a b : List Item)
    → writes_after room waiting (a ++ b) ≡ writes_after room waiting a ++ writes_after room (waits_after room waiting a) b
unfolding waits_after writes_after
writes_on room waiting [] b = refl
writes_on room waiting (i ∷ a) b =
    ap (λ (l : List ℕ). writes room waiting ++ l) (writes_on room (waits room waiting i) a b)
    ∙ sym (append_assoc (writes room waiting) (writes_after room (waits room waiting i) a) _)

items_on : (a b : List Found) → items_of (a ++ b) ≡ items_of a ++ items_of b
unfolding items_of
items_on [] b = refl
items_on (found i payload ∷ a) b = ap (λ (l : List Item). i ∷ l) (items_on a b)

-- a piece in two parts
module _ (room : ℕ) (s : Standing) (a b : List ℕ) where
  pub listed_on : listed room s (a ++ b) ≡ listed room (listed room s a) b
  unfolding listed
  listed_on = rw (handed_joined s.held a b, items_on, waits_on)

  pub written_on : writes_in room s (a ++ b) ≡ writes_in room s a ++ writes_in room (listed room s a) b
  unfolding listed writes_in
  written_on = rw (handed_joined s.held a b, items_on, writes_on)

-- no bytes
pub listed_none : (room : ℕ) → listed room fresh [] ≡ fresh
unfolding listed items_of waits_after handed_each joined
listed_none room = rw (← cuts [])

-- a failure is no end
not_ended : {f : Failure} → ◌≡◌ {A = Result Unit Failure} (Err f) (Ok tt) → ⊥
not_ended h = true≢false (ap is_err h)

-- a write that failed while the lines of a piece joined, and its error as the listing's own
pub write_failed : {T E : Type 0} {Q : E → Failure → Type 0} (r : Result T E) {m : Result T Failure} {f : Failure} {room : ℕ}
    {start end : Standing} (piece : List ℕ) → OnErr r (Fails room start piece end)
    → MatchResult r (λ x. m ≡ Ok x) (λ e. IsErrAnd m (Q e)) → ((e : E) (f : Failure) → Q e f → f ≡ Write) → m ≡ Err f
    → ListsSome (Err f) room start end
write_failed (Ok x) piece fails cases told is = absurd (true≢false (ap is_err (sym is ∙ cases)))
write_failed (Err e) {f = f} piece fails cases told is = rw (told e f (rw is at cases)) record { piece = piece; lists = fails }

-- what was read before, and what is read next: it goes on, as long as something comes
abbrev pub after : Result Bool Failure → Result Unit Failure
after (Ok true) = Err Endless
after (Ok false) = Ok tt
after (Err f) = Err f

pub onward : (r : Result Bool Failure) {room : ℕ} {start end : Standing} → ListsAll (Err Endless) room start → ListsSome r room start end
    → ListsAll (after r) room end
onward (Ok true) {room} all some = record {
  input = all.input ++ some.piece;
  lists = some.lists ∙ rw (listed_on room fresh all.input some.piece, ← all.lists);
}
onward (Ok false) all some = record { input = all.input; lists = some.lists ∙ all.lists }
onward (Err Read) all some = record { input = all.input; lists = some.lists ∙ all.lists }
onward (Err Write) {room} all some =
    let written = rw (← all.lists) at (written_on room fresh all.input some.piece) in
    record {
      input = all.input ++ some.piece;
      lists = record {
        empty = some.lists.empty;
        due = omega (arith, some.lists.due, ap length written ∙ length-append (writes_in room fresh all.input) _);
      };
    }
onward (Err Endless) all some = absurd some.lists

-- of a reader and a writer: before anything is read, and from what was read before to what is read next
pub lists_none : (room : ℕ) → ListsAll (Err Endless) room fresh
lists_none room = record { input = []; lists = sym (listed_none room) }

pub moves_none : (room : ℕ) (left written : Option (List ℕ)) → MovesAll (Err Endless) room fresh left left written written
unfolding writes_in items_of writes_after handed_each joined
moves_none room left written = record {
  input = [];
  moves = record {
    lists = sym (listed_none room);
    reads = Consumes-nil left;
    writes = rw (← cuts []) (Appends-nil written);
  };
  ends = λ h. absurd (not_ended h);
}

module _ {room : ℕ} {start end : Standing} {left left' left'' written written' written'' : Option (List ℕ)} where
  rested : (input : List ℕ) → Moves room fresh input start left left' written written'
      → Rests start end left' left'' written' written'' → Moves room fresh input end left left'' written written''
  rested input all some = record {
    lists = some.lists ∙ all.lists;
    reads = Consumes-kept _ _ _ _ all.reads some.reads;
    writes = Appends-kept _ _ _ _ all.writes some.writes;
  }

  moved : (input piece : List ℕ) → Moves room fresh input start left left' written written'
      → Moves room start piece end left' left'' written' written'' → Moves room fresh (input ++ piece) end left left'' written written''
  moved input piece all some = record {
    lists = some.lists ∙ rw (listed_on room fresh input piece, ← all.lists);
    reads = Consumes-trans _ _ _ _ _ all.reads some.reads;
    writes = rw (written_on room fresh input piece, ← all.lists) (Appends-trans _ _ _ _ _ all.writes some.writes);
  }

pub moves_on : (r : Result Bool Failure) {room : ℕ} {start end : Standing} {left left' left'' written written' written'' : Option (List ℕ)}
    → MovesAll (Err Endless) room start left left' written written'
    → MovesSome r room start end left' left'' written' written'' → MovesAll (after r) room end left left'' written written''
moves_on (Ok true) all some = record {
  input = all.input ++ some.piece;
  moves = moved all.input some.piece all.moves some.moves;
  ends = λ h. absurd (not_ended h);
}
moves_on (Ok false) all some = record { input = all.input; moves = rested all.input all.moves some.moves; ends = λ h. some.ends refl }
moves_on (Err Read) all some = record { input = all.input; moves = rested all.input all.moves some.moves; ends = λ h. absurd (not_ended h) }
moves_on (Err Write) all some = record { input = []; moves = tt; ends = λ h. absurd (not_ended h) }
moves_on (Err Endless) all some = absurd some.moves
