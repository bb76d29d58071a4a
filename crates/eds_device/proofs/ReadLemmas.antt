-- What reading a device gives, and what reading the INI text gave.
use Rattle.std.proofs.Common.{◌≡◌, ℕ, Bool, true, false, List, Result, Err, IsTrue, refl}
use Rattle.std.specs.Prelude.{if◌then◌else◌}
use Rattle.std.specs.Bool.{IsFalse, OnFalse}
use Rattle.ini_text.specs.Content.{Content, content_of}
use Rattle.ini_text.specs.Text.{is_out_of_range, has_bad_byte}
use Rattle.ini_text.specs.declared.IniFault.{IniFault}
use Rattle.ini_text.specs.declared.IniFault.TheVariants as ini
use Rattle.eds_places.specs.declared.fault.DeviceFault.{DeviceFault}
use Rattle.eds_places.specs.declared.fault.DeviceFault.TheVariants.{Range, BadByte}
use Rattle.eds_places.specs.Faults.{is_memory, unless_too_many}
use Rattle.eds_device.specs.Faults.{device_of}
use Rattle.eds_places.specs.FaultOf.{fault_of}
use Rattle.eds_places.specs.Places.{pairs_of}

pub ini_refused : (fault : IniFault) (text : List ℕ) → (fault ≡ ini.Range → IsTrue (is_out_of_range text))
    → (fault ≡ ini.BadByte → IsFalse (is_out_of_range text) × IsTrue (has_bad_byte text))
    → OnFalse (is_memory (fault_of fault)) (device_of text ≡ Err (fault_of fault))
unfolding device_of
ini_refused ini.Memory text r b = tt
ini_refused ini.Range text r b = rw (r refl) refl
ini_refused ini.BadByte text r b = rw ((b refl).0, (b refl).1) refl

pub read_as : (text : List ℕ) (content : Content) → (IsTrue (is_out_of_range text) → ⊥)
    → (IsFalse (is_out_of_range text) × IsTrue (has_bad_byte text) → ⊥) → content ≡ content_of text
    → device_of text ≡ unless_too_many (pairs_of content.sections) content
unfolding device_of
read_as text content r b is = rw is (by (is_out_of_range text) (has_bad_byte text) r b)
  where
    by : (s t : Bool) → (IsTrue s → ⊥) → (IsFalse s × IsTrue t → ⊥)
        → (let none : Result Content DeviceFault = Err Range in let bad : Result Content DeviceFault = Err BadByte in
        (if s then none else if t then bad else unless_too_many (pairs_of (content_of text).sections) (content_of text))
        ≡ unless_too_many (pairs_of (content_of text).sections) (content_of text))
    by true t f g = absurd (f refl)
    by false true f g = absurd (g (refl, refl))
    by false false f g = refl
