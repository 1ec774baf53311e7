-- An effect with what is remembered beside it is a verdict: what is said of the effect is said of the verdict too.
use Prim.Native.Nat.{ℕ}
use mathlib.Core.List.{List, []}
use mathlib.Core.Path.{◌≡◌, refl}
use Rattle.link.specs.Promises.{seen_of}
use Rattle.link.specs.declared.repeats.Seen.{Seen}
use Rattle.ledger.specs.Parts.{Ledger}
use Rattle.ledger.specs.Receiving.{remembering}
use Rattle.decisions_verdict.specs.Verdicts.{effect_of, act_of}
use Rattle.decisions_verdict.specs.declared.Effect.{Effect}
use Rattle.decisions_verdict.specs.declared.Verdict.{Verdict}

-- the verdict with an effect, after which this is remembered
abbrev pub with_seen : Effect → Seen → Verdict
with_seen e seen = record { word = e.word; change = e.change; seen = seen }

module _ (l : Ledger) (e : Effect) (seen : Seen) (payload : List ℕ) where
  -- where the last SEQ stays
  pub stays : l.seen ≡ seen_of seen → effect_of e payload l ≡ act_of (with_seen e seen) [] payload l.live
  stays last = rw last

  -- and where another one becomes the last
  pub remembers : remembering (seen_of seen) (effect_of e payload l) ≡ act_of (with_seen e seen) [] payload l.live
  remembers = refl
