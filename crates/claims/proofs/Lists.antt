-- Properties of every element of a list, and of lists put together.
use mathlib.Core.List.{List, [], ◌∷◌, ◌++◌}
use mathlib.Core.Path.{◌≡◌, refl, ap}
use lib.ListN.{length, take}
use Rattle.ledger.specs.Lists.{All}
use Rattle.claims.specs.Clauses.{◌∈◌, here, there}

module _ {A : Type 0} where
  pub all_of : (P : A → Type 0) (xs : List A) → All P xs → (x : A) → x ∈ xs → P x
  all_of P [] h x among = elim among [ ]
  all_of P (y ∷ xs) h x here = h.0
  all_of P (y ∷ xs) h x (there m) = all_of P xs h.1 x m

  pub all_map : (P Q : A → Type 0) → ((x : A) → P x → Q x) → (xs : List A) → All P xs → All Q xs
  all_map P Q f [] h = tt
  all_map P Q f (x ∷ xs) h = (f x h.0, all_map P Q f xs h.1)

  pub all_both : (P Q R : A → Type 0) → ((x : A) → P x → Q x → R x) → (xs : List A) → All P xs → All Q xs → All R xs
  all_both P Q R f [] h k = tt
  all_both P Q R f (x ∷ xs) h k = (f x h.0 k.0, all_both P Q R f xs h.1 k.1)

  pub all_append : (P : A → Type 0) (xs ys : List A) → All P xs → All P ys → All P (xs ++ ys)
  all_append P [] ys h k = k
  all_append P (x ∷ xs) ys h k = (h.0, all_append P xs ys h.1 k)

  pub all_left : (P : A → Type 0) (xs ys : List A) → All P (xs ++ ys) → All P xs
  all_left P [] ys h = tt
  all_left P (x ∷ xs) ys h = (h.0, all_left P xs ys h.1)

  pub all_right : (P : A → Type 0) (xs ys : List A) → All P (xs ++ ys) → All P ys
  all_right P [] ys h = h
  all_right P (x ∷ xs) ys h = all_right P xs ys h.1

  pub in_right : (x : A) (xs ys : List A) → x ∈ ys → x ∈ (xs ++ ys)
  in_right x [] ys m = m
  in_right x (y ∷ xs) ys m = there (in_right x xs ys m)

  pub in_left : (x : A) (xs ys : List A) → x ∈ xs → x ∈ (xs ++ ys)
  in_left x [] ys among = elim among [ ]
  in_left x (y ∷ xs) ys here = here
  in_left x (y ∷ xs) ys (there m) = there (in_left x xs ys m)

  pub append-nil : (xs : List A) → xs ++ [] ≡ xs
  append-nil [] = refl
  append-nil (x ∷ xs) = ap (x ∷◌) (append-nil xs)

  pub append_append : (xs ys zs : List A) → (xs ++ ys) ++ zs ≡ xs ++ (ys ++ zs)
  append_append [] ys zs = refl
  append_append (x ∷ xs) ys zs = ap (x ∷◌) (append_append xs ys zs)

  -- what stands in front, and its length
  pub take_front : (xs ys : List A) → take (length xs) (xs ++ ys) ≡ xs
  take_front [] [] = refl
  take_front [] (y ∷ ys) = refl
  take_front (x ∷ xs) ys = ap (x ∷◌) (take_front xs ys)
