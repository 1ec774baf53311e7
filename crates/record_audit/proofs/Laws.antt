-- The audit finds none in the live requests of an endpoint that is not malformed.
use mathlib.Core.Bool.{false}
use Rattle.std.specs.Prelude.{None}
use mathlib.Core.Path.{◌≡◌}
use Rattle.audit.specs.Audit.{audit}
use Rattle.audit.specs.Rows.{Sound}
use Rattle.audit.proofs.Laws.{sound_is_none}
use Rattle.endpoint.specs.Endpoint.{rows_of}
use Rattle.endpoint.specs.Malformed.{malformed}
use Rattle.endpoint.specs.declared.Endpoint.{Endpoint}
use Rattle.endpoint.proofs.Order.{facts}
use Rattle.record_audit.specs.Records.{ids_of}
use Rattle.record_audit.proofs.LiveIds.{above, apart}

-- live IDs are above R and no two are equal, as "Malformed means one of" has it
pub sound_ids : (e : Endpoint) → malformed e ≡ false → Sound e.reserved (ids_of (rows_of e.live))
sound_ids e h = record { unreserved = above e.reserved (rows_of e.live) (facts h).ids; distinct = apart (rows_of e.live) (facts h).unequal }

-- so the audit of the live requests, by the endpoint's own R, finds none
pub sound_endpoint : (e : Endpoint) → malformed e ≡ false → audit e.reserved (ids_of (rows_of e.live)) ≡ None
sound_endpoint e h = sound_is_none e.reserved (ids_of (rows_of e.live)) (sound_ids e h)
