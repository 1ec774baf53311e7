-- What a search for the oldest request finds: the request, those before it, which do not show what is looked for, and those after.
use mathlib.Core.List.{List, [], ◌∷◌, ◌++◌}
use mathlib.Core.Option.{Option, none, some}
use mathlib.Core.Path.{◌≡◌, refl, ap}
use Rattle.ledger.specs.Lists.{All}
use Rattle.ledger.specs.Parts.{Request, Search, nobody, somebody, front_or, oldest}

pub data Looked {A : Type 0} (shows : Request → Option A) (live : List Request) : Search A → Type 0 where
  none_shows : All (λ q. shows q ≡ none) live → Looked shows live nobody
  one_shows : {b a : List Request} {it : Request} {what : A} → live ≡ b ++ (it ∷ a) → shows it ≡ some what
      → All (λ q. shows q ≡ none) b → Looked shows live (somebody b it what a)

pub look : {A : Type 0} (shows : Request → Option A) (live : List Request) → Looked shows live (oldest shows live)
unfolding oldest
look shows [] = none_shows tt
look {A} shows (q ∷ qs) = go (shows q) refl (oldest shows qs) (look shows qs)
  where
    go : (o : Option A) → shows q ≡ o → (s : Search A) → Looked shows qs s → Looked shows (q ∷ qs) (front_or o q qs s)
    go none e nobody (none_shows h) = none_shows (e, h)
    go none e (somebody b it what a) (one_shows l p h) = one_shows {b = q ∷ b} (ap (q ∷◌) l) p (e, h)
    go (some what) e s looked = one_shows refl e tt

-- and the other way: the first that shows it is found
pub find_oldest : {A : Type 0} (shows : Request → Option A) (b a : List Request) (q : Request) {what : A} → shows q ≡ some what
    → All (λ x. shows x ≡ none) b → oldest shows (b ++ (q ∷ a)) ≡ somebody b q what a
unfolding oldest
find_oldest shows [] a q shown h = rw shown
find_oldest shows (x ∷ b) a q shown h = rw (h.0, find_oldest shows b a q shown h.1)

-- and where none shows it, nobody is
pub find_nobody : {A : Type 0} (shows : Request → Option A) (live : List Request) → All (λ x. shows x ≡ none) live
    → oldest shows live ≡ nobody
unfolding oldest
find_nobody shows [] h = refl
find_nobody shows (x ∷ live) h = rw (h.0, find_nobody shows live h.1)
