-- `message_reader::count_dropped` meets its contract: what is dropped is what stands before the first place at which SYN stands.
use Rattle.std.proofs.Common.{rules, arith, ℕ, ◌≡◌, ◌≤◌, ◌<◌, true, false, List, Option, Some, None, length, ◌∙◌}
use Rattle.std.specs.Prelude.{MatchOption}
use Rattle.std.specs.Option.{unwrap_or}
use Rattle.std.proofs.lemmas.Iterator.{first_from_Range}
use Rattle.message.specs.Items.{stands, dropped}
use Rattle.message.proofs.Buffer.{lent_from, tail}
use Rattle.message.proofs.Dropping.{dropped_before}
use Rattle.message_reader.proofs.count_dropped.Goals as goal

-- the place found, or the end
found_at : (xs : List ℕ) (o : Option ℕ)
    → MatchOption o ((k : ℕ) → 0 ≤ k → k < length xs → stands (lent_from k xs) ≡ false)
    (λ i. (0 ≤ i) × (i < length xs) × (stands (lent_from i xs) ≡ true) × ((k : ℕ) → 0 ≤ k → k < i → stands (lent_from k xs) ≡ false))
    → unwrap_or o (length xs) ≡ dropped xs
found_at xs None nowhere =
    dropped_before xs (length xs) (omega arith) (λ less. absurd (omega arith)) (λ k less. rw (tail k xs) at (nowhere k (omega arith) less))
found_at xs (Some i) (low, less, here, before) =
    dropped_before xs i (omega arith) (λ within. rw (tail i xs) at here) (λ k under. rw (tail k xs) at (before k (omega arith) under))

pub returns : goal.returns
returns c =
    let b = c.args.bytes.now in
    c.unwrap_or.ensures
    ∙ found_at b c.find-stops.result
    (first_from_Range _ _ _ _ (λ k. stands (lent_from k b) ≡ true) (λ k. stands (lent_from k b) ≡ false) c.find-stops.ensures.ran
    (λ x q k. search rules) (λ x q k. search rules))
