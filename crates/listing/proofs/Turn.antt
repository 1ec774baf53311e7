-- One turn of handing in, from what `receive` and `add_line` promise: an item's line is short, fewer bytes are left, and what is left
-- comes to what all comes to.
use Prim.Native.Nat.{ℕ, ◌+◌, ◌-◌, ◌≤◌, ◌<◌}
use mathlib.Core.Bool.{false}
use mathlib.Core.List.{List, [], ◌∷◌, ◌++◌, append_assoc, append-nil}
use mathlib.Core.Path.{◌≡◌, refl, sym, ap, subst, ◌∙◌}
use native.Mathlib.Omega.{arith}
use lib.ListN.{length, take, drop, length-take, length-drop, length-append}
use lib.Seq.{take_all}
use borrow.Author.Tests.{leb-false}
use Rattle.std.specs.Prelude.{Option, None, Some, Result, Ok, Err, OnErr}
use Rattle.std.specs.Io.KnownBytes.{Appends}
use Rattle.std.proofs.KnownBytes.{Appends-nil, Appends-trans}
use Rattle.message.specs.Promises.{item_of}
use Rattle.message.specs.declared.Item.{Item}
use Rattle.message.specs.declared.Item.TheVariants.{DamagedHeader, Forbidden, DamagedPayload, Message}
use Rattle.line.specs.Cuts.{found, before, handed}
use Rattle.line.specs.Promises.{answer_of, Receives}
use Rattle.line.specs.Receiving.{item}
use Rattle.line.specs.Receiving as spec
use Rattle.line.specs.declared.Received.{Received}
use Rattle.line.proofs.Laws.{item_removes, message_short, handed_more, handed_item}
use Rattle.listing_words.specs.Words.{decimal_limit}
use Rattle.listing_lines.specs.Text.{line_room, len_of}
use Rattle.listing_lines.specs.Waiting.{has_room, writes, waits, writes_after, waits_after}
use Rattle.listing.specs.Promises.{Fails}
use Rattle.listing.specs.Standing.{items_of, Standing, listed, writes_in}

-- where there is no room, all that waits is written
writes_all : (room : ℕ) (waiting : List ℕ) → has_room room waiting ≡ false → writes room waiting ≡ waiting
unfolding writes
writes_all room waiting h = rw h

-- the bytes from a place on
behind : (k : ℕ) (l : List ℕ) → take (length l - k) (drop k l) ≡ drop k l
behind k l = take_all (length l - k) (drop k l) (rw (length-drop k l) (omega arith))

-- what is left comes to what all of the piece comes to, and no more is written for it
pub record Left (room : ℕ) (start : Standing) (piece : List ℕ) (now : Standing) (rest : List ℕ) : Type 0 where
  pub same : listed room now rest ≡ listed room start piece
  pub fewer : length (writes_in room now rest) ≤ length (writes_in room start piece)

-- of a writer whose bytes are known: what was written for the piece so far, and what is still to be written for it, are all that is
pub record Sent (room : ℕ) (start : Standing) (piece : List ℕ) (now : Standing) (rest : List ℕ) (written written' : Option (List ℕ)) : Type 0 where
  pub done : List ℕ
  pub grows : Appends written written' done
  pub so_far : done ++ writes_in room now rest ≡ writes_in room start piece

pub sent_none : (room : ℕ) (start : Standing) (piece : List ℕ) (written : Option (List ℕ)) → Sent room start piece start piece written written
sent_none room start piece written = record { done = []; grows = Appends-nil written; so_far = refl }

module _ (r : Received) (held new exit : List ℕ) (p : Receives r held new exit) where
  module _ (i : Item) (told : r.answer ≡ Some i) where
    said : (spec.receive held new).answer ≡ item (item_of i)
    said = sym p.answers ∙ ap answer_of told

    pub taken_short : r.taken ≤ length new
    taken_short = omega (arith, p.takes, (item_removes held new said).within)

    pub fewer_held : r.count + 2 ≤ length held + r.taken
    fewer_held = omega (arith, p.takes, p.counts, (item_removes held new said).fewer)

    -- the item, then what comes of the rest
    next : handed held new
        ≡ before (found (item_of i) (spec.receive held new).payload ∷ []) (handed (take r.count exit) (drop r.taken new))
    next = handed_item held new said ∙ rw (p.takes, p.holds)

    module _ (room : ℕ) (waiting : List ℕ) where
      listed_next : listed room record { waiting = waiting; held = held } new
          ≡ listed room record { waiting = waits room waiting (item_of i); held = take r.count exit } (drop r.taken new)
      unfolding listed items_of waits_after
      listed_next = rw next

      writes_next : writes_in room record { waiting = waiting; held = held } new
          ≡ writes room waiting
          ++ writes_in room record { waiting = waits room waiting (item_of i); held = take r.count exit } (drop r.taken new)
      unfolding writes_in items_of writes_after
      writes_next = rw next

      module _ {start : Standing} {piece : List ℕ} (l : Left room start piece record { waiting = waiting; held = held } new)
          {joined : List ℕ} where
        -- the line has joined
        pub left_next : joined ≡ waits room waiting (item_of i)
            → Left room start piece record { waiting = joined; held = take r.count exit } (take (length new - r.taken) (drop r.taken new))
        left_next same = record {
          same = rw (same, behind r.taken new) (sym listed_next ∙ l.same);
          fewer = rw (same, behind r.taken new) (omega (arith, l.fewer, ap length writes_next ∙ length-append (writes room waiting) _));
        }

        -- what it wanted has been written
        pub sent_next : {written written' written'' : Option (List ℕ)}
            → Sent room start piece record { waiting = waiting; held = held } new written written'
            → joined ≡ waits room waiting (item_of i) → Appends written' written'' (writes room waiting)
            → Sent room start piece record { waiting = joined; held = take r.count exit }
            (take (length new - r.taken) (drop r.taken new)) written written''
        sent_next sent same more = record {
          done = sent.done ++ writes room waiting;
          grows = Appends-trans _ _ _ _ _ sent.grows more;
          so_far = rw (same, behind r.taken new)
              (append_assoc sent.done (writes room waiting) _ ∙ ap (λ (l : List ℕ). sent.done ++ l) (sym writes_next) ∙ sent.so_far);
        }

        -- the write that it wanted has failed
        pub left_fails : line_room ≤ room → (has_room room waiting ≡ false) × (joined ≡ [])
            → Fails room start piece record { waiting = joined; held = take r.count exit }
        left_fails large why = record {
          empty = why.1;
          due = omega (
            arith,
            l.fewer,
            ap length writes_next ∙ length-append (writes room waiting) _,
            ap length (writes_all room waiting why.0),
            leb-false (length waiting + line_room) room why.0,
          );
        }

  -- *more*: all lines have joined
  pub listed_more : r.answer ≡ None → (room : ℕ) (waiting : List ℕ)
      → record { waiting = waiting; held = take r.count exit } ≡ listed room record { waiting = waiting; held = held } new
  unfolding listed items_of waits_after
  listed_more told room waiting = rw (handed_more held new (sym p.answers ∙ ap answer_of told), p.holds)

  -- and all that they wanted has been written
  pub sent_more : r.answer ≡ None → (room : ℕ) (waiting : List ℕ) {start : Standing} {piece : List ℕ} {written written' : Option (List ℕ)}
      → Sent room start piece record { waiting = waiting; held = held } new written written'
      → Appends written written' (writes_in room start piece)
  unfolding writes_in items_of writes_after
  sent_more told room waiting {written = written} {written' = written'} sent =
      subst (Appends written written')
      (sym (append-nil sent.done) ∙ rw (handed_more held new (sym p.answers ∙ ap answer_of told)) at sent.so_far) sent.grows

short_by : (held new : List ℕ) (i : Item) → (spec.receive held new).answer ≡ item (item_of i) → len_of (item_of i) < decimal_limit
short_by held new DamagedHeader h = omega arith
short_by held new Forbidden h = omega arith
short_by held new DamagedPayload h = omega arith
short_by held new (Message t q len) h = omega (arith, message_short held new h)

pub short : (r : Received) (held new exit : List ℕ) → Receives r held new exit → (i : Item) → r.answer ≡ Some i
    → len_of (item_of i) < decimal_limit
short r held new exit p i told = short_by held new i (said r held new exit p i told)

-- the held bytes are at most as many as were counted
pub counted : (n : ℕ) (l : List ℕ) → length (take n l) ≤ n
counted n l = rw (length-take n l) (omega arith)

-- what holds where there is a failure
pub on_err : {T E P : Type 0} (r : Result T E) → P → OnErr r P
on_err (Ok x) p = tt
on_err (Err e) p = p
