-- The shifts of the code as terms, so that one law says of all of them that they are linear (`proofs/Shifts.antt`) and one computed test
-- of each what remainder it leaves (`proofs/Forms.antt`). No promise cites them.
-- With P = x^16 + x^12 + x^5 + 1, squaring gives P^4 = x^64 + x^48 + x^20 + 1, P^8 = x^128 + x^96 + x^40 + 1 and
-- P^16 = x^256 + x^192 + x^80 + 1: the distances of the shifts are those between these powers.
use Rattle.std.specs.Prelude.{ℕ, ◌*◌, ◌/◌, ◌%◌, ◌^◌}
use Rattle.std.specs.Int.Bits.{bit_xor}

pub data Shifts : Type 0 where
  same : Shifts
  right : ℕ → Shifts
  left : ℕ → Shifts
  low : ℕ → Shifts
  sum : Shifts → Shifts → Shifts
  then : Shifts → Shifts → Shifts

-- what a term stands for
abbrev pub eval : Shifts → ℕ → ℕ
eval same a = a
eval (right k) a = a / 2 ^ k
eval (left k) a = a * 2 ^ k
eval (low k) a = a % 2 ^ k
eval (sum e d) a = bit_xor (eval e a) (eval d a)
eval (then e d) a = eval d (eval e a)

-- a shift to the left in a number of w bits
abbrev pub up_in : ℕ → ℕ → Shifts
up_in w k = then (left k) (low w)

abbrev pub up : ℕ → Shifts
up k = up_in 64 k

-- A number over P: P is x^16 (1 + x^-4 + x^-11 + x^-16), and 1 over that bracket is the bracket times its square, times the square of
-- that, and so on until the shifts leave the number. Of P times the quotient the lowest 16 bits are the remainder.
abbrev pub times_p_in : ℕ → Shifts
times_p_in w = then (sum (sum same (up_in w 5)) (up_in w 12)) (low 16)

-- of 32 bits
abbrev pub of_half : Shifts
of_half =
    then (sum (sum (sum same (right 4)) (right 11)) (right 16))
    (then (sum (sum same (right 8)) (right 22))
    (then (sum same (right 16)) (times_p_in 32)))

-- of 64 bits
abbrev pub of_word : Shifts
of_word =
    then (sum (sum (sum same (right 4)) (right 11)) (right 16))
    (then (sum (sum (sum same (right 8)) (right 22)) (right 32))
    (then (sum (sum same (right 16)) (right 44))
    (then (sum same (right 32)) (times_p_in 64))))

-- what a word in front of another adds to it, modulo P^4
abbrev pub to_one : Shifts
to_one = then (sum same (right 32)) (then (sum (sum same (right 16)) (right 44)) (sum (sum same (up 20)) (up 48)))

-- the same where the first has 16 bits: its quotient by P^4 is the number itself
abbrev pub to_one_near : Shifts
to_one_near = sum (sum (left 48) (left 20)) same

-- what a word in front of two others adds to the first and to the second of them, modulo P^8
abbrev pub to_high : Shifts
to_high = then (sum same (right 32)) (sum (up 32) (right 24))

abbrev pub to_low : Shifts
to_low = then (sum same (right 32)) (sum same (up 40))

-- what a word in front of four others adds to the second and to the third of them, modulo P^16; to the first and to the last it adds itself
abbrev pub to_second : Shifts
to_second = right 48

abbrev pub to_third : Shifts
to_third = up 16
