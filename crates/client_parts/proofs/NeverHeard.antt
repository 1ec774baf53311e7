-- A request of which nothing is heard, from the contract of poll.
use Prim.Native.Nat.{ℕ}
use mathlib.Core.List.{List, [], ◌∷◌}
use mathlib.Core.Path.{refl, ap, ◌∙◌}
use native.Mathlib.Omega.{arith}
use Rattle.link.specs.Frames.{first_sent, may_go_again, sent_again}
use Rattle.link.proofs.Laws.{due_late, again_not_due}
use Rattle.ledger.specs.Calls.{poll}
use Rattle.endpoint.specs.declared.Endpoint.{Endpoint}
use Rattle.host_answers.specs.Answers.{Polled}
use Rattle.host_answers.specs.Promises.{poll_result, Promise}
use Rattle.host_claims.specs.Claims.{Extends}
use Rattle.client_parts.specs.Parts.{GivesUp}
use Rattle.client_parts.specs.declared.Readings.{Readings}
use Rattle.client_parts.proofs.Calls.{comes, with_call}
use Rattle.client_parts.proofs.Polls.{poll_calm, poll_again, poll_over}
use Rattle.client_parts.proofs.AskedOnce.{the_one, poll_passes, rests_1000}

-- the calls, each with its result and its contract
module _ (e : Endpoint) (store output : List ℕ) (at : Readings)
    (r1 : Polled) (s1 o1 : List ℕ) (p1 : Promise e store (poll output at.again) (poll_result r1 s1 o1))
    (x1 : Extends e store (poll output at.again) (poll_result r1 s1 o1))
    (r2 : Polled) (s2 o2 : List ℕ) (p2 : Promise r1.endpoint s1 (poll o1 at.again) (poll_result r2 s2 o2))
    (x2 : Extends r1.endpoint s1 (poll o1 at.again) (poll_result r2 s2 o2))
    (r3 : Polled) (s3 o3 : List ℕ) (p3 : Promise r2.endpoint s2 (poll o2 at.last) (poll_result r3 s3 o3))
    (x3 : Extends r2.endpoint s2 (poll o2 at.last) (poll_result r3 s3 o3))
    (r4 : Polled) (s4 o4 : List ℕ) (p4 : Promise r3.endpoint s3 (poll o3 at.last) (poll_result r4 s4 o4))
    (x4 : Extends r3.endpoint s3 (poll o3 at.last) (poll_result r4 s4 o4))
    (r5 : Polled) (s5 o5 : List ℕ) (p5 : Promise r4.endpoint s4 (poll o4 at.over) (poll_result r5 s5 o5))
    (x5 : Extends r4.endpoint s4 (poll o4 at.over) (poll_result r5 s5 o5)) where
  pub gives_up : GivesUp (record {
    second = r1.answer;
    rests = r2.answer;
    third = r3.answer;
    calm = r4.answer;
    ended = r5.answer;
    endpoint = r5.endpoint;
  }) e store s5 output o5 at
  unfolding may_go_again
  gives_up given begun calls outcomes reserved before seq next id s seen f bytes chain stands then-again then-last then-over room put =
      let again = at.again in
      let last = at.last in
      let over = at.over in
      let once = first_sent s before in
      let twice = sent_again once again in
      let thrice = sent_again twice last in
      let passes = poll_passes output room in
      let k1 = comes chain stands (poll output again) (poll_result r1 s1 o1) p1 (omega arith) passes
      (poll_again reserved before seq next seen id f bytes output again once (due_late once again (omega arith)) refl) in
      let same1 = k1.leaves ∙ ap (λ (o : List ℕ). o ∷ []) put in
      let c1 = with_call chain (poll output again) (poll_result r1 s1 o1) x1 k1.answers same1 in
      let k2 = comes c1 k1.next (poll output again) (poll_result r2 s2 o2) (rw (the_one same1) at p2) (omega arith) passes
      (poll_calm reserved again seq next seen id f bytes output again twice (again_not_due once again)) in
      let rests = k2.answers ∙ rests_1000 again in
      let c2 = with_call c1 (poll output again) (poll_result r2 s2 o2) (rw (the_one same1) at x2) rests k2.leaves in
      let k3 = comes c2 k2.next (poll output last) (poll_result r3 s3 o3) (rw (the_one k2.leaves) at p3) (omega arith) passes
      (poll_again reserved again seq next seen id f bytes output last twice (due_late twice last (omega arith)) refl) in
      let same3 = k3.leaves ∙ ap (λ (o : List ℕ). o ∷ []) put in
      let c3 = with_call c2 (poll output last) (poll_result r3 s3 o3) (rw (the_one k2.leaves) at x3) k3.answers same3 in
      let k4 = comes c3 k3.next (poll output last) (poll_result r4 s4 o4) (rw (the_one same3) at p4) (omega arith) passes
      (poll_calm reserved last seq next seen id f bytes output last thrice (again_not_due twice last)) in
      let calm = k4.answers ∙ rests_1000 last in
      let c4 = with_call c3 (poll output last) (poll_result r4 s4 o4) (rw (the_one same3) at x4) calm k4.leaves in
      let k5 = comes c4 k4.next (poll output over) (poll_result r5 s5 o5) (rw (the_one k4.leaves) at p5) (omega arith) passes
      (poll_over reserved last seq next seen id f bytes output over thrice (due_late thrice over (omega arith)) refl) in
      let x = rw (the_one k4.leaves) at x5 in
      record {
        second = k1.answers;
        rests = rests;
        third = k3.answers;
        calm = calm;
        ends = k5.answers;
        stays = the_one k5.leaves;
        meets = rw (k5.answers, k5.leaves) at (x given begun _ _ c4).meets;
      }
