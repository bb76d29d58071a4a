-- The limit of entries, counted by the rules.
use Rattle.std.proofs.Common.{◌≡◌, ℕ, ◌<◌, ◌≤◌, Bool, true, false, List, length, Result, Ok, Err, ◌↔◌, refl, arith}
use Rattle.std.proofs.Common.{ltb-true}
use Rattle.std.specs.Prelude.{if◌then◌else◌, nat_lt}
use Rattle.std.specs.Bool.{IsFalse}
use Rattle.std.proofs.lemmas.Bool.{lt-ltb}
use Rattle.std.proofs.lemmas.Cmp.{eq_by_cmp_equiv}
use Rattle.std.proofs.lemmas.Map.Keys.{IsDistinct-from_sorted}
use Rattle.std.proofs.lemmas.Map.Made.{length-le_from_is_member}
use Rattle.ini_text.specs.Content.{Content, content_of}
use Rattle.ini_text.specs.Text.{is_out_of_range, has_bad_byte}
use Rattle.co_dict.specs.Places.{place_cmp}
use Rattle.co_dict.proofs.PlaceLemmas.{places_total}
use Rattle.eds_places.specs.declared.fault.DeviceFault.{DeviceFault}
use Rattle.eds_places.specs.declared.fault.DeviceFault.TheVariants.{Range, Limit, BadByte}
use Rattle.eds_places.specs.Faults.{most_entries}
use Rattle.eds_device.specs.Faults.{HasTooMany, device_of}
use Rattle.eds_places.specs.Places.{pairs_of}
use Rattle.eds_places.proofs.ConverseLemmas.{given_by_rules}
use Rattle.eds_places.proofs.GivenLemmas.{contains_has, has_contains}
use Rattle.eds_places.proofs.PlaceLemmas.{pairs_sorted}

-- places that the rules give are no more than the entries
no_more : (text : List ℕ) (many : HasTooMany (content_of text).sections)
    → length many.places ≤ length (pairs_of (content_of text).sections)
no_more text many =
    length-le_from_is_member (eq_by_cmp_equiv places_total) many.places (pairs_of (content_of text).sections)
    (IsDistinct-from_sorted place_cmp many.places many.in_order)
    (λ q h. contains_has q (pairs_of (content_of text).sections)
    ((given_by_rules text q.0 q.1).1 (many.given q.0 q.1 (has_contains q many.places h))))

too_many : (text : List ℕ) → most_entries < length (pairs_of (content_of text).sections)
    → HasTooMany (content_of text).sections
too_many text h = record {
  places = pairs_of (content_of text).sections;
  in_order = pairs_sorted (content_of text).sections;
  over = h;
  given = λ index sub there. (given_by_rules text index sub).0 there;
}

-- a text is refused by `Limit` where its bytes are those of an INI text, and the rules give too many entries
pub limited_by_rules : (text : List ℕ) → (device_of text ≡ Err Limit)
    ↔ ((IsFalse (is_out_of_range text) × IsFalse (has_bad_byte text)) × HasTooMany (content_of text).sections)
unfolding device_of
limited_by_rules text = (
  by (is_out_of_range text) (has_bad_byte text)
      (nat_lt most_entries (length (pairs_of (content_of text).sections))) refl,
  λ h.
      let large : nat_lt most_entries (length (pairs_of (content_of text).sections))
      ≡ true = lt-ltb most_entries (length (pairs_of (content_of text).sections))
      (omega (arith, no_more text h.1, h.1.over)) in
      rw (h.0.0, h.0.1, large) refl,
)
  where
    by : (r b t : Bool) → nat_lt most_entries (length (pairs_of (content_of text).sections)) ≡ t
        → (let range : Result Content DeviceFault = Err Range in let bad : Result Content DeviceFault = Err BadByte
        in let limit : Result Content DeviceFault = Err Limit in
        (if r then range else if b then bad else if t then limit else Ok (content_of text)) ≡ limit)
        → ((IsFalse r × IsFalse b) × HasTooMany (content_of text).sections)
    by true b t e h = cc
    by false true t e h = cc
    by false false true e h = (
      (refl, refl),
      too_many text (ltb-true most_entries (length (pairs_of (content_of text).sections)) e),
    )
    by false false false e h = cc
