-- What hands out the parts of a project, and the image that it hands out.
use Rattle.std.specs.Prelude.{ℕ, List, refl}
use Rattle.std.specs.Coded.{Coded, code_by, coded×, coded_ℕ, coded_list}
use Rattle.image_parts.specs.Asking.{Seen}
use Rattle.image_parts.specs.Contents.{Content}
use Rattle.image_parts.specs.declared.part.Part.{Part}
use Rattle.network_image.specs.Network.{image_held, Network}

-- the parts that are held, what was handed out since the record was taken, and the number of calls
pub record Supply : Type 0 where
  pub parts : Network
  pub asked : List (Part × Content)
  pub asks : ℕ

-- they are stored one by one
abbrev pub supply_code : Coded Network → Coded (Part × Content) → Coded Supply
supply_code network_code read_code =
    code_by (Network × (List (Part × Content) × ℕ))
    (coded× network_code (coded× (coded_list read_code) coded_ℕ))
    (λ s. (s.parts, (s.asked, s.asks)))
    (λ t. record { parts = t.0; asked = t.1.0; asks = t.1.1 })
    (λ _. refl)

-- the image, and what was handed out of it
abbrev pub seen_of : Supply → Seen Part Content
seen_of supply = record { image = image_held supply.parts; asked = supply.asked }
