-- Along every list of calls from open on: the ledger is not malformed, and what calls and outcomes show is what it holds.
use Prim.Native.Nat.{ℕ, ◌≤◌}
use mathlib.Core.Bool.{cond as if}
use mathlib.Core.List.{List, [], ◌∷◌}
use mathlib.Core.Option.{none, some}
use mathlib.Core.Path.{◌≡◌, refl}
use native.Mathlib.Omega.{arith}
use lib.Dec.{ltb}
use borrow.Author.Tests.{ltb-false}
use Rattle.ledger.specs.Lists.{All}
use Rattle.ledger.specs.Parts.{reserved_max, Ledger}
use Rattle.ledger.specs.Answers.{Done}
use Rattle.ledger.specs.Calls.{Call, reading_of}
use Rattle.ledger.specs.Refusals.{first_of}
use Rattle.ledger.specs.Runs.{opened_by, step, Entry, Run, start, then, run}
use Rattle.claims.specs.Trace.{endings, frames, live_after, requests}
use Rattle.claims.specs.Clauses.{Enough}
use Rattle.ledger.proofs.Cases.{by_test}
use Rattle.claims.proofs.Lists.{all_map, all_right}
use Rattle.claims.proofs.Views.{Change, stays, joins, leaves, turns, rests_free, rests_busy, View, refuses, accepts, view}
use Rattle.claims.proofs.Fine.{Sound, Fine, fresh_fine, later, turned, issued_free, fine_step}
use Rattle.claims.proofs.Tracing.{Told, told_calm, told_join, told_leave, told_turn}

pub record Good (limit : ℕ) (s : Run) : Type 0 where
  pub fine : Fine limit s.ledger
  pub told : Told s.past s.ledger.live

-- a call with its outcome
abbrev pub entry_of : Call → Done → Entry
entry_of c d = record { call = c; answer = d.answer; buffers = d.buffers }

-- at the reading of a call
pub now_sound : (l : Ledger) {limit t : ℕ} → Fine limit l → l.clock ≤ t → All (Sound l.reserved t) l.live
now_sound l {limit} {t} fine go_on =
    all_map (Sound l.reserved l.clock) (Sound l.reserved t) (later go_on) l.live fine.fit.each

module _ (limit : ℕ) (enough : Enough limit) where
  told_step : (l : Ledger) (c : Call) (h : List Entry) (d : Done) → Fine limit l → View limit l c d → Told h l.live
      → Told (entry_of c d ∷ h) d.next.live
  told_step l c h d fine (refuses n number buffers same) told =
      rw same (told_calm (entry_of c d) h l.live (rw number) (rw number) (rw number) told)
  told_step l c h d fine (accepts go_on accepted keeps change) told = go change
    where
      e : Entry
      e = entry_of c d

      go : Change limit l (reading_of c) d → Told (entry_of c d ∷ h) d.next.live
      go (stays shows same) = rw same (told_calm (entry_of c d) h l.live shows.asks shows.ends shows.sends told)
      go (rests_free current free idle shows same) =
          rw same (told_calm (entry_of c d) h l.live shows.asks shows.ends shows.sends told)
      go (rests_busy current b a q f among flying calm shows same) =
          rw same (told_calm (entry_of c d) h l.live shows.asks shows.ends shows.sends told)
      go (joins q new named short room shows same) =
          rw same (told_join (entry_of c d) h l.live q new (rw named (issued_free limit enough l fine room)) shows.asks
          shows.ends shows.sends told)
      go (leaves b a q x among named shows same) =
          rw same (told_leave (entry_of c d) h b a q x (rw among at fine.fit.distinct) shows.asks shows.ends named
          shows.sends (rw among at told))
      go (turns b a q s frame among turn first shows same) =
          let sound = (all_right (Sound l.reserved (reading_of c)) b (q ∷ a) (rw among at (now_sound l fine go_on))).0 in
          rw same (told_turn (entry_of c d) h l (reading_of c) q b a s frame (rw among at fine.fit.distinct) turn sound.steady
          (turned l (reading_of c) q turn sound.steady).steady shows.asks shows.ends shows.sends (rw among at told))

  pub good_step : (s : Run) (c : Call) → Good limit s → Good limit (then limit s c)
  good_step s c good =
      let v = view limit s.ledger c in
      record {
        fine = fine_step limit enough s.ledger c good.fine v;
        told = told_step s.ledger c s.past (step limit s.ledger c) good.fine v good.told;
      }

  pub good_run : (s : Run) (cs : List Call) → Good limit s → Good limit (run limit s cs)
  unfolding run
  good_run s [] good = good
  good_run s (c ∷ cs) good = good_run (then limit s c) cs (good_step s c good)

-- what open hands back
pub start_good : (limit given : ℕ) → Good limit (start given)
unfolding first_of endings frames live_after requests
start_good limit given =
    by_test (λ b. ltb reserved_max given ≡ b
    → Good limit (record { past = []; ledger = (opened_by given (if b (some 3) none)).next })) (ltb reserved_max given)
    (λ b e. record { fine = fresh_fine limit 0 (omega arith); told = untold })
    (λ b e. record { fine = fresh_fine limit given (ltb-false reserved_max given e); told = untold })
    refl
  where
    untold : Told [] []
    untold = record {
      owners = tt;
      once = λ k. omega arith;
      few = λ k. record { three = omega arith; alike = tt };
      belongs =
          tt;
      fates = tt;
    }
