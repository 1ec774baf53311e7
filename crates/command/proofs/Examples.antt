-- The command of bench example 6 of document 01, computed by the definitions.
use mathlib.Core.List.{[], ◌∷◌}
use mathlib.Core.Path.{◌≡◌, refl}
use Rattle.message.specs.Bytes.{le16}
use Rattle.command.specs.Payload.{payload}

-- "R = 38, first request, TC 3, TID 1, SID 0, IID 1, CID 1, no data": its payload, with request ID 39
pub example_6_payload : payload (record { tc = 3; tid = 1; sid = 0; iid = 1; cid = 1 }) 39 []
    ≡ 0x80 ∷ 0x03 ∷ 0x01 ∷ 0x00 ∷ 0x01 ∷ 0x27 ∷ 0x00 ∷ 0x01 ∷ []
unfolding payload le16
example_6_payload = refl
