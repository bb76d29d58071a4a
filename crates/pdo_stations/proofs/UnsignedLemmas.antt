-- Types that are UNSIGNEDn.
use Rattle.std.proofs.Common.{◌≡◌, true, refl}
use Rattle.co_values.specs.declared.data_type.DataType.{DataType}
use Rattle.co_values.specs.declared.data_type.DataType.TheVariants.{Boolean, Integer8, Integer16, Integer24, Integer32}
use Rattle.co_values.specs.declared.data_type.DataType.TheVariants.{Integer40, Integer48, Integer56, Integer64}
use Rattle.co_values.specs.declared.data_type.DataType.TheVariants.{Unsigned8, Unsigned16, Unsigned24, Unsigned32}
use Rattle.co_values.specs.declared.data_type.DataType.TheVariants.{Unsigned40, Unsigned48, Unsigned56, Unsigned64}
use Rattle.co_values.specs.declared.data_type.DataType.TheVariants.{Real32, Real64, VisibleString, OctetString, Domain}
use Rattle.co_values.specs.declared.data_type.DataType.TheVariants.{NotModelled}
use Rattle.co_values.specs.declared.form.Form.TheVariants.{Unsigned}
use Rattle.co_values.specs.declared.form.Width.{Width}
use Rattle.co_values.specs.declared.form.Width.TheVariants.{Bits8, Bits16, Bits24, Bits32, Bits40, Bits48, Bits56, Bits64}
use Rattle.co_values.specs.Types.{form}
use Rattle.pdo_stations.specs.Devices.{is_unsigned}

-- their values are laid out so
pub unsigned_form : (kind : DataType) (width : Width) → is_unsigned kind width ≡ true → form kind ≡ Unsigned width
unsigned_form Unsigned8 Bits8 e = refl
unsigned_form Unsigned16 Bits16 e = refl
unsigned_form Unsigned24 Bits24 e = refl
unsigned_form Unsigned32 Bits32 e = refl
unsigned_form Unsigned40 Bits40 e = refl
unsigned_form Unsigned48 Bits48 e = refl
unsigned_form Unsigned56 Bits56 e = refl
unsigned_form Unsigned64 Bits64 e = refl
unsigned_form Unsigned8 Bits16 e = cc
unsigned_form Unsigned8 Bits24 e = cc
unsigned_form Unsigned8 Bits32 e = cc
unsigned_form Unsigned8 Bits40 e = cc
unsigned_form Unsigned8 Bits48 e = cc
unsigned_form Unsigned8 Bits56 e = cc
unsigned_form Unsigned8 Bits64 e = cc
unsigned_form Unsigned16 Bits8 e = cc
unsigned_form Unsigned16 Bits24 e = cc
unsigned_form Unsigned16 Bits32 e = cc
unsigned_form Unsigned16 Bits40 e = cc
unsigned_form Unsigned16 Bits48 e = cc
unsigned_form Unsigned16 Bits56 e = cc
unsigned_form Unsigned16 Bits64 e = cc
unsigned_form Unsigned24 Bits8 e = cc
unsigned_form Unsigned24 Bits16 e = cc
unsigned_form Unsigned24 Bits32 e = cc
unsigned_form Unsigned24 Bits40 e = cc
unsigned_form Unsigned24 Bits48 e = cc
unsigned_form Unsigned24 Bits56 e = cc
unsigned_form Unsigned24 Bits64 e = cc
unsigned_form Unsigned32 Bits8 e = cc
unsigned_form Unsigned32 Bits16 e = cc
unsigned_form Unsigned32 Bits24 e = cc
unsigned_form Unsigned32 Bits40 e = cc
unsigned_form Unsigned32 Bits48 e = cc
unsigned_form Unsigned32 Bits56 e = cc
unsigned_form Unsigned32 Bits64 e = cc
unsigned_form Unsigned40 Bits8 e = cc
unsigned_form Unsigned40 Bits16 e = cc
unsigned_form Unsigned40 Bits24 e = cc
unsigned_form Unsigned40 Bits32 e = cc
unsigned_form Unsigned40 Bits48 e = cc
unsigned_form Unsigned40 Bits56 e = cc
unsigned_form Unsigned40 Bits64 e = cc
unsigned_form Unsigned48 Bits8 e = cc
unsigned_form Unsigned48 Bits16 e = cc
unsigned_form Unsigned48 Bits24 e = cc
unsigned_form Unsigned48 Bits32 e = cc
unsigned_form Unsigned48 Bits40 e = cc
unsigned_form Unsigned48 Bits56 e = cc
unsigned_form Unsigned48 Bits64 e = cc
unsigned_form Unsigned56 Bits8 e = cc
unsigned_form Unsigned56 Bits16 e = cc
unsigned_form Unsigned56 Bits24 e = cc
unsigned_form Unsigned56 Bits32 e = cc
unsigned_form Unsigned56 Bits40 e = cc
unsigned_form Unsigned56 Bits48 e = cc
unsigned_form Unsigned56 Bits64 e = cc
unsigned_form Unsigned64 Bits8 e = cc
unsigned_form Unsigned64 Bits16 e = cc
unsigned_form Unsigned64 Bits24 e = cc
unsigned_form Unsigned64 Bits32 e = cc
unsigned_form Unsigned64 Bits40 e = cc
unsigned_form Unsigned64 Bits48 e = cc
unsigned_form Unsigned64 Bits56 e = cc
unsigned_form Boolean width e = cc
unsigned_form Integer8 width e = cc
unsigned_form Integer16 width e = cc
unsigned_form Integer24 width e = cc
unsigned_form Integer32 width e = cc
unsigned_form Integer40 width e = cc
unsigned_form Integer48 width e = cc
unsigned_form Integer56 width e = cc
unsigned_form Integer64 width e = cc
unsigned_form Real32 width e = cc
unsigned_form Real64 width e = cc
unsigned_form VisibleString width e = cc
unsigned_form OctetString width e = cc
unsigned_form Domain width e = cc
unsigned_form NotModelled width e = cc
