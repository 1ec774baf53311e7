-- The rule as the code tests it: R, the count, the next ID, the bytes held, the flights, and then the rows.
use mathlib.Core.Bool.{Bool, true, false, true≢false, ◌||◌}
use mathlib.Core.Path.{◌≡◌, refl, sym, ◌∙◌}
use native.Mathlib.Omega.{arith}
use lib.Dec.{ltb}
use borrow.Author.Tests.{ltb-true, ltb-false}
use Rattle.line.specs.Receiving.{held_max}
use Rattle.ledger.specs.Parts.{reserved_max, live_max}
use Rattle.ledger.specs.Refusals.{is_outside, flights}
use Rattle.endpoint.specs.Code.{some_bad}
use Rattle.endpoint.specs.Endpoint.{rows_of}
use Rattle.endpoint.specs.Malformed.{bare_of, malformed}
use Rattle.endpoint.specs.declared.Endpoint.{Endpoint}
use Rattle.endpoint.proofs.Order.{must_be, rows_decide}

-- each of the first tests alone decides, and where all fail the last does
first_of : (a b c d f s m : Bool) → (a ≡ true → m ≡ true) → (b ≡ true → m ≡ true) → (c ≡ true → m ≡ true) → (d ≡ true → m ≡ true)
    → (f ≡ true → m ≡ true) → (a ≡ false → b ≡ false → c ≡ false → d ≡ false → f ≡ false → s ≡ m)
    → ((((a || b) || c) || d) || f) || s ≡ m
first_of true b c d f s m ha hb hc hd hf hs = sym (ha refl)
first_of false true c d f s m ha hb hc hd hf hs = sym (hb refl)
first_of false false true d f s m ha hb hc hd hf hs = sym (hc refl)
first_of false false false true f s m ha hb hc hd hf hs = sym (hd refl)
first_of false false false false true s m ha hb hc hd hf hs = sym (hf refl)
first_of false false false false false s m ha hb hc hd hf hs = hs refl refl refl refl refl

module _ (e : Endpoint) where
  -- the tests before the last
  abbrev pub early : Bool
  early =
      (((ltb reserved_max e.reserved || ltb live_max e.live.count) || is_outside e.reserved e.next.0) || ltb held_max e.held)
      || ltb 1 (flights (bare_of (rows_of e.live)))

  pub by_code : early || some_bad e.reserved e.clock (rows_of e.live) ≡ malformed e
  by_code =
      let r = e.reserved in
      let flying = flights (bare_of (rows_of e.live)) in
      first_of (ltb reserved_max r) (ltb live_max e.live.count) (is_outside r e.next.0) (ltb held_max e.held) (ltb 1 flying)
      (some_bad r e.clock (rows_of e.live)) (malformed e)
      (λ t. must_be e (λ f. let over = ltb-true reserved_max r t in let few = f.reserved in omega arith))
      (λ t. must_be e (λ f. let over = ltb-true live_max e.live.count t in let few = f.few in omega arith))
      (λ t. must_be e (λ f. true≢false (sym t ∙ f.next)))
      (λ t. must_be e (λ f. let over = ltb-true held_max e.held t in let few = f.held in omega arith))
      (λ t. must_be e (λ f. let over = ltb-true 1 flying t in let few = f.flying in omega arith))
      (λ a b c d f.
      rows_decide e (ltb-false reserved_max r a) (ltb-false live_max e.live.count b) c (ltb-false held_max e.held d)
      (ltb-false 1 flying f))
