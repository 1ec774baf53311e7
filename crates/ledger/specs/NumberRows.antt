-- The numbers of an answer of each kind, written out in their order (`in_order`).
use Rattle.std.specs.Prelude.{ℕ, List, [], ◌∷◌, ◌++◌, ◌≡◌, replicate}
use Rattle.std.proofs.Math.Option.{Option, none, some}
use Rattle.message.specs.Items.{damaged_header, message}
use Rattle.line.specs.Receiving as line
use Rattle.line.specs.Receiving.{more, item}
use Rattle.ledger.specs.Answers as word
use Rattle.ledger.specs.Answers.{Ending, Command, Word, no_word, sent, ended, quiet, Answer, refused, opened, submitted, received, polled}
use Rattle.ledger.specs.Numbers.{numbers_of, in_order}

-- an answer, and its numbers
pub record Telling : Type 0 where
  pub answer : Answer
  pub numbers : List ℕ

abbrev pub tells : Answer → List ℕ → Telling
tells a ns = record { answer = a; numbers = ns }

unfoldable pub AllTell : List Telling → Type 0
AllTell [] = Unit
AllTell (t ∷ ts) = (in_order (numbers_of t.answer) ≡ t.numbers) × AllTell ts

-- a receive: an event of TC 3, TID 1, SID 2, IID 4, RQID 38, CID 5 with 2 data bytes in a DATA_SEQ frame of SEQ 9; a damaged header; and a
-- response that ends request 39
abbrev pub heard : line.Answer → Word → (taken replied : ℕ) → Option Ending → Answer
heard i w taken replied ending = received (record { item = i; word = w; taken = taken; replied = replied; ending = ending })

abbrev pub sample : (rqid : ℕ) → Command
sample id = record { fields = record { tc = 3; tid = 1; sid = 2; iid = 4; cid = 5 }; rqid = id; length = 2 }

abbrev pub end : Ending
end = record { id = 39; cause = word.Cause.response }

-- one of each kind
abbrev pub tellings : List Telling
tellings =
    tells (refused 4) (4 ∷ replicate 16 0)
    ∷ tells opened (replicate 17 0)
    ∷ tells (submitted 39) (0 ∷ 39 ∷ replicate 15 0)
    ∷ tells (heard more no_word 9 0 none) (replicate 5 0 ++ (9 ∷ replicate 11 0))
    ∷ tells (heard (item damaged_header) no_word 8 10 none) (replicate 5 0 ++ (8 ∷ 10 ∷ replicate 10 0))
    ∷ tells (heard (item (message 0x40 7 0)) word.stray 10 0 none) (0 ∷ 0 ∷ 0x40 ∷ 7 ∷ 0 ∷ 10 ∷ replicate 11 0)
    ∷ tells (heard (item (message 0x80 9 10)) (word.event (sample 38)) 20 10 none)
    (0 ∷ 0 ∷ 0x80 ∷ 9 ∷ 10 ∷ 20 ∷ 10 ∷ 3 ∷ 1 ∷ 2 ∷ 4 ∷ 38 ∷ 5 ∷ 2 ∷ 0 ∷ 0 ∷ 0 ∷ [])
    ∷ tells (heard (item (message 0x80 9 10)) (word.Word.response (sample 39)) 20 10 (some end))
    (0 ∷ 0 ∷ 0x80 ∷ 9 ∷ 10 ∷ 20 ∷ 10 ∷ 3 ∷ 1 ∷ 2 ∷ 4 ∷ 39 ∷ 5 ∷ 2 ∷ 0 ∷ 0 ∷ 39 ∷ [])
    ∷ tells (polled (sent 18)) (replicate 14 0 ++ (18 ∷ 0 ∷ 0 ∷ []))
    ∷ tells (polled (quiet (some 1000))) (replicate 15 0 ++ (1000 ∷ 0 ∷ []))
    ∷ tells (polled (ended end)) (replicate 16 0 ++ (39 ∷ []))
    ∷ []
