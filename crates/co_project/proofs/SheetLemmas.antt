-- The data sheet of a text that describes a device.
use Rattle.std.proofs.Common.{◌≡◌, ◌∙◌, ◌&&◌, ℕ, Bool, List, Ok, ap}
use Rattle.ini_text.specs.Content.{content_of}
use Rattle.eds_device.specs.Faults.{device_of}
use Rattle.eds_device.specs.Sheets.{Sheet, content_in, has_new_types, sheet_in, sheet_of, sheet_with}

-- what has the content of the text, and the data types of a version, is the data sheet that this version reads
pub read_is : (is_three : Bool) (text : List ℕ) (device : Sheet) → device_of text ≡ Ok (content_in device)
    → device.is_three ≡ (is_three && has_new_types device.sections) → device_of text ≡ Ok (content_of text)
    → device ≡ sheet_of is_three text
read_is is_three text device read version is =
    let same : content_in device ≡ content_of text = cc in
    ap (λ (b : Bool). sheet_with b (content_in device)) version ∙ ap (sheet_in is_three) same
