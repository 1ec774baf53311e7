-- What a search of the rows says of the ledger's "oldest": nobody, or the request in the row that was found, which is that row's.
use Prim.Native.Nat.{ℕ, ◌+◌, ◌<◌}
use mathlib.Core.Bool.{Bool}
use mathlib.Core.List.{List, []}
use mathlib.Core.Option.{Option, some}
use mathlib.Core.Path.{◌≡◌, ◌∙◌}
use native.Mathlib.Omega.{arith}
use lib.ListN.{length, take, get_or}
use Rattle.std.specs.Prelude.{Some, None}
use Rattle.std.specs.List.{position, position_or_len}
use Rattle.command.specs.Promises.{fields_of}
use Rattle.command.specs.declared.Fields.{Fields}
use Rattle.command.specs.declared.RequestId.{RequestId}
use Rattle.ledger.specs.Parts as ledger
use Rattle.ledger.specs.Parts.{queued, in_flight, waiting, nobody, somebody, oldest}
use Rattle.ledger.specs.Answers.{Command}
use Rattle.ledger.specs.Receiving.{provided, matches}
use Rattle.endpoint.specs.Endpoint.{request_of, room_at, requests_from}
use Rattle.endpoint.specs.Places.{at, after}
use Rattle.endpoint.specs.declared.Request.{Request}
use Rattle.endpoint.proofs.Rows.{blank_row}
use Rattle.endpoint.proofs.Listed.{length_requests, requests_at}
use Rattle.live_search.specs.Searching.{is_shown, command_with}
use Rattle.live_search.proofs.Found.{shown_provided, position_none, position_one, oldest_none, oldest_some, found_shows, first_rows}

-- a test of a row asks for what the ledger looks for, whatever the data of the request
abbrev pub Asks : {A : Type 0} → (ledger.Request → Option A) → (Request → Bool) → Type 0
Asks f test = (q : Request) (b : List ℕ) → is_shown (f (request_of q b)) ≡ test q

-- the request that is found, and what it shows
pub record Finds {A : Type 0} (f : ledger.Request → Option A) (them : List ledger.Request) (row : ℕ) : Type 0 where
  pub what : A
  pub shown : f (at row them) ≡ some what
  pub found : oldest f them ≡ somebody (take row them) (at row them) what (after row them)

-- a row
abbrev pub row_at : List Request → ℕ → Request
row_at rows i = get_or rows i blank_row

-- of any requests that stand in these rows
module _ {A : Type 0} (f : ledger.Request → Option A) (test : Request → Bool) (asks : Asks f test) (rows : List Request)
    (them : List ledger.Request) (store : List ℕ) (same : them ≡ requests_from 0 rows store) where
  first : position_or_len (λ q. is_shown (f q)) (requests_from 0 rows store) ≡ position_or_len test rows
  first = first_rows (λ q. is_shown (f q)) test asks rows 0 store

  pub none_found : position test rows ≡ None → oldest f them ≡ nobody
  none_found missing =
      let most = position_none test rows missing in
      rw same (oldest_none f (requests_from 0 rows store) (omega (arith, first, length_requests 0 rows store)))

  module _ {row : ℕ} (one : position test rows ≡ Some row) where
    less : row < length rows
    less = (position_one test rows row one).1

    here : position_or_len (λ q. is_shown (f q)) (requests_from 0 rows store) ≡ row
    here = first ∙ (position_one test rows row one).0

    inside : row < length (requests_from 0 rows store)
    inside = omega (arith, less, length_requests 0 rows store)

    pub one_found : Finds f them row
    one_found =
        let s = found_shows f (requests_from 0 rows store) row here inside in
        rw same (record {
          what = s.what;
          shown = s.shown;
          found = oldest_some f (requests_from 0 rows store) row here inside s.shown;
        })

    pub found_row : at row them ≡ request_of (row_at rows row) (room_at store row (row_at rows row).len)
    found_row =
        let place : 0 + row ≡ row = omega arith in
        rw same (requests_at 0 row rows store less ∙ rw place)

-- the request that a command answers is the one that matches it, whatever the command's length
abbrev pub matched : Command → ledger.Request → Option (Unit {0})
matched c q = provided (matches c q) tt

pub match_asks : (c : Command) (fields : Fields) (id : RequestId) → c.fields ≡ fields_of fields → c.rqid ≡ id.0
    → Asks (matched c) (λ q. matches (command_with (fields_of fields) id.0 0) (request_of q []))
unfolding matches
match_asks c fields id same-fields same_id q b = shown_provided {A = Unit {0}} (matches c (request_of q b)) tt ∙ rw (same-fields, same_id)
