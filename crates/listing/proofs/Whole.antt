-- The whole listing, of a reader and a writer whose bytes are known: the first line, what is written while the lines join, what waits then
-- and the last line are together the listing of all that was read.
use Rattle.std.specs.Prelude.{ℕ, List, ◌++◌, ◌≡◌, Option, Result, Ok, Err, OnOk, length}
use mathlib.Core.Bool.{true≢false}
use Rattle.std.specs.Result.{is_ok}
use mathlib.Core.List.{append_assoc}
use mathlib.Core.Path.{refl, sym, ap, subst, ◌∙◌}
use Rattle.std.specs.Io.KnownBytes.{Appends}
use Rattle.std.proofs.KnownBytes.{Appends-trans, Consumes-whole}
use Rattle.texts.specs.Text.{ascii}
use Rattle.listing_lines.specs.Text.{end_of}
use Rattle.listing.specs.Moving.{listing_of, last_of, MovesAll, ListsWell}
use Rattle.listing.specs.Standing.{Standing, fresh, listed, writes_in}
use Rattle.listing.proofs.Laws.{lines_of_input}

-- the parts of a listing: what was written, and what is printed last of what it came to
parts : (room : ℕ) (end : Standing) (input : List ℕ) → end ≡ listed room fresh input
    → ascii "items\n" ++ (writes_in room fresh input ++ last_of end) ≡ listing_of input
unfolding listing_of listed
parts room end input stands =
    rw stands
    (ap (λ (l : List ℕ). ascii "items\n" ++ l)
    (sym (append_assoc (writes_in room fresh input) _ _)
    ∙ ap (λ (l : List ℕ). l ++ end_of (length (listed room fresh input).held)) (lines_of_input room input)))

pub whole : (room : ℕ) (end : Standing) {left left' first second third last : Option (List ℕ)} → Appends first second (ascii "items\n")
    → MovesAll (Ok tt) room end left left' second third → Appends third last (last_of end) → ListsWell left left' first last
whole room end {first = first} {last = last} begun all finished =
    let written = Appends-trans _ _ _ _ _ begun (Appends-trans _ _ _ _ _ all.moves.writes finished) in
    record {
      ends = all.ends refl;
      writes = Consumes-whole _ _ _ (λ (input : List ℕ). Appends first last (listing_of input)) all.moves.reads (all.ends refl)
          (subst (Appends first last) (parts room end all.input all.moves.lists) written);
    }

-- the same, where the last write answers another error
pub on_ok : {T E F P Q : Type 0} (r : Result T E) (s : Result T F) → is_ok s ≡ is_ok r → (P → Q) → OnOk r P → OnOk s Q
on_ok (Ok x) (Ok y) same then p = then p
on_ok (Ok x) (Err f) same then p = tt
on_ok (Err e) (Ok y) same then p = absurd (true≢false same)
on_ok (Err e) (Err f) same then p = tt
