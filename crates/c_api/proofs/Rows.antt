-- The rows of what C is told, computed by the definitions.
use mathlib.Core.Path.{refl}
use Rattle.checksum.specs.Checksum.{with_bit, with_bits, bits_of, checksum_from, checksum_of}
use Rattle.message.specs.Bytes.{allowed, writable}
use Rattle.message.specs.Items.{stands, dropped, rules, scan}
use Rattle.message.specs.Writing.{written}
use Rattle.audit.specs.Audit.{is_among, is_unsound, first_from}
use Rattle.c_api.specs.Rows.{IsTold, AllTold, readings, writings, auditings}

pub readings_told : AllTold readings
unfolding AllTold IsTold scan dropped stands rules allowed checksum_of checksum_from with_bits with_bit bits_of
readings_told = (refl, (refl, (refl, (refl, (refl, (refl, (refl, (refl, tt))))))))

pub writings_told : AllTold writings
unfolding AllTold IsTold written writable allowed
writings_told = (refl, (refl, (refl, (refl, (refl, tt)))))

pub auditings_told : AllTold auditings
unfolding AllTold IsTold first_from is_unsound is_among
auditings_told = (refl, (refl, (refl, (refl, (refl, tt)))))
