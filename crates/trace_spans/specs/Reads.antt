-- What was read of an image, with private numbers: contents of one number are one content.
use Rattle.std.specs.Prelude.{◌≡◌, ℕ, ◌<◌, ◌≤◌, All, List, map, Option, Some, refl}
use Rattle.std.specs.BTreeMap.{is_at}
use Rattle.std.specs.Map.{lookup}
use Rattle.std.specs.Coded.{Coded, code_by, coded×, coded_option, coded_ℕ}
use Rattle.std.specs.declared.cmp.Ordering.{Ordering}
use Rattle.image_parts.specs.Contents.{Content, Image}
use Rattle.image_parts.specs.declared.part.Part.{Part}
use Rattle.image_parts.specs.contracts.part.PartOrd.TheImpl as part_ord
use Rattle.trace_spans.specs.Numbers.{KeepsMeaning, StandsFor}

-- the name of a part, its content, and the content's number
pub record Recorded : Type 0 where
  pub name : Part
  pub number : ℕ
  pub content : Content

abbrev pub recorded_code : Coded (Part × Content) → Coded Recorded
recorded_code read_code = code_by (ℕ × (Part × Content)) (coded× coded_ℕ read_code) (λ r. (r.number, (r.name, r.content)))
    (λ p. record { name = p.1.0; number = p.0; content = p.1.1 }) (λ _. refl)

-- without the number
abbrev pub plain_read : Recorded → Part × Content
plain_read r = (r.name, r.content)

abbrev pub plain : List Recorded → List (Part × Content)
plain reads = map plain_read reads

-- the number stands for the content
abbrev pub IsMarked : (ℕ → Content) → ℕ → Recorded → Type 0
IsMarked contents given r = StandsFor contents given r.number r.content

abbrev pub AreMarked : (ℕ → Content) → ℕ → List Recorded → Type 0
AreMarked contents given reads = All (IsMarked contents given) reads

-- ---- what is known of the image of now

-- a part as it is now, and the number of a content that it hasn't, if one was met
pub record Known : Type 0 where
  pub read : Recorded
  pub other : Option ℕ

abbrev pub known_code : Coded Recorded → Coded Known
known_code read_code = code_by (Recorded × Option ℕ) (coded× read_code (coded_option coded_ℕ)) (λ k. (k.read, k.other))
    (λ p. record { read = p.0; other = p.1 }) (λ _. refl)

-- the order of parts
abbrev pub part_cmp : Part → Part → Ordering
part_cmp = (part_ord.ghosts).cmp

-- what is known of a part
abbrev pub known_at : List (Part × Known) → Part → Option Known
known_at entries part = lookup (is_at (part_cmp part)) entries

-- it is the part as the image has it; its number stands for its content, and the other number for another one
pub record IsKnown (image : Image) (contents : ℕ → Content) (given : ℕ) (part : Part) (k : Known) : Type 0 where
  pub name : k.read.name ≡ part
  pub is : image part ≡ k.read.content
  pub marked : IsMarked contents given k.read
  pub other : (n : ℕ) → k.other ≡ Some n → (n < given) × (contents n ≡ k.read.content → ⊥)

-- NO NUMBER STANDS FOR TWO CONTENTS: of what is known of the image
abbrev pub AreNumbered : Image → (ℕ → Content) → ℕ → List (Part × Known) → Type 0
AreNumbered image contents given entries = (part : Part) (k : Known) → known_at entries part ≡ Some k
    → IsKnown image contents given part k

-- more is known, and more numbers are given: the old ones stand for what they stood for
pub record LearnsMore (image : Image) (contents : ℕ → Content) (given later : ℕ) (entries : List (Part × Known)) : Type 0 where
  pub meaning : ℕ → Content
  pub more : given ≤ later
  pub keeps : KeepsMeaning given contents meaning
  pub known : AreNumbered image meaning later entries
