-- The sections of a DCF can be printed.
use Rattle.std.proofs.Common.{◌≡◌, ◌==◌, ℕ, zero, suc, ◌+◌, ◌^◌, ◌<◌, ◌≤◌, Bool, true, false, cond, not, ◌&&◌, ◌||◌}
use Rattle.std.proofs.Common.{List, [], ◌∷◌, ◌++◌, length, filter, filter_map, option_to_list, codes, decimal, IfSome}
use Rattle.std.proofs.Common.{Option, None, Some, option_map, refl, sym, ap, subst, ◌∙◌, arith}
use Rattle.std.proofs.lemmas.Bool.{false≢true, not-true}
use Rattle.std.specs.List.{AllByRecursion, list_any}
use Rattle.ini_text.proofs.NameLemmas.{same_sym}
use Rattle.ini_text.specs.Change.{put_value}
use Rattle.ini_text.specs.Content.{Pair, same, same_key}
use Rattle.ini_text.specs.Printable.{AreApart, IsKey, IsPrintablePair, IsValue}
use Rattle.co_values.specs.declared.data_type.DataType.{DataType}
use Rattle.co_values.specs.Values.{text_of_value}
use Rattle.eds_device.specs.Described.{kind_at}
use Rattle.eds_device.specs.Origins.{origin_of}
use Rattle.eds_device.specs.Places.{first_subs}
use Rattle.eds_device.specs.Sheets.{Sheet}
use Rattle.eds_dcf.specs.Compact.{is_compact, is_decimal, value_pair, values_pairs, values_set, with_all, with_count}
use Rattle.eds_dcf.specs.Compact.{with_set}
use Rattle.eds_dcf.specs.Entries.{parameter_pairs}
use Rattle.eds_dcf.specs.Pairs.{without}
use Rattle.eds_dcf.proofs.ApartLemmas.{all_append, all_filter, all_pass, all_weaker, apart_append, apart_filter}
use Rattle.eds_dcf.proofs.ApartLemmas.{put_apart, put_printable}
use Rattle.eds_dcf.proofs.CompactLemmas.{decimal_same, same_decimal, value_pair_keyed}
use Rattle.eds_dcf.proofs.LineLemmas.{IsOpen, count_key, decimal_is_decimal, decimal_key, decimal_open, decimal_value}
use Rattle.eds_dcf.proofs.LineLemmas.{parameter_key, set_pair}
use Rattle.eds_dcf.proofs.TextLemmas.{filter_map-push}

-- pairs that can be printed, with their keys apart
pub record AreSound (ps : List Pair) : Type 0 where
  pub each : AllByRecursion IsPrintablePair ps
  pub apart : AreApart same_key ps

pub sound_filter : (p : Pair → Bool) (ps : List Pair) → AreSound ps → AreSound (filter p ps)
sound_filter p ps h = record {
  each = all_filter IsPrintablePair p ps h.each;
  apart = apart_filter same_key p ps h.apart;
}

pub sound_append : (ps qs : List Pair) → AreSound ps → AreSound qs
    → AllByRecursion (λ p. AllByRecursion (λ q. same_key p q ≡ false) qs) ps → AreSound (ps ++ qs)
sound_append ps qs h g b = record {
  each = all_append IsPrintablePair ps qs h.each g.each;
  apart = apart_append same_key ps qs h.apart g.apart b;
}

sound_put : (key value : List ℕ) → IsKey key → IsOpen key → IsValue value → (ps : List Pair) → AreSound ps
    → AreSound (put_value ps key value)
sound_put key value k o v ps h = record {
  each = put_printable key value k o v ps h.each;
  apart = put_apart key value ps h.apart;
}

-- ---- an entry's section

pub own_sound : (ps : List Pair) (kind : DataType) (o : Option (List ℕ)) → AreSound ps
    → IfSome o (λ bytes. IsValue (text_of_value kind bytes)) → AreSound (parameter_pairs ps kind o)
own_sound ps kind None h v =
    sound_append (without (codes "ParameterValue") ps) []
    (sound_filter (λ p. not (same (codes "ParameterValue") p.key)) ps h) (record { each = tt; apart = tt })
    (nothing (without (codes "ParameterValue") ps))
  where
    nothing : (ps : List Pair) → AllByRecursion (λ p. AllByRecursion (λ q. same_key p q ≡ false) []) ps
    nothing [] = tt
    nothing (p ∷ ps) = (tt, nothing ps)
own_sound ps kind (Some bytes) h v =
    sound_append (without (codes "ParameterValue") ps) _
    (sound_filter (λ p. not (same (codes "ParameterValue") p.key)) ps h)
    (record {
      each = (set_pair (codes "ParameterValue") (text_of_value kind bytes) parameter_key refl v, tt);
      apart = (tt, tt);
    })
    (all_weaker (λ p. not (same (codes "ParameterValue") p.key) ≡ true)
    (λ p. AllByRecursion (λ q. same_key p q ≡ false)
    (record { key = codes "ParameterValue"; value = text_of_value kind bytes } ∷ []))
    (λ p kept. (same_sym p.key (codes "ParameterValue") ∙ not-true (same (codes "ParameterValue") p.key) kept, tt))
    (without (codes "ParameterValue") ps) (all_pass (λ p. not (same (codes "ParameterValue") p.key)) ps))

-- ---- the values of compact subs

module _ (sheet : Sheet) (values : ℕ × ℕ → Option (List ℕ))
    (spelled : (place : ℕ × ℕ) → IfSome (values place)
    (λ bytes. IsValue (text_of_value (kind_at sheet place) bytes))) where
  -- a pair whose key is a number of its own
  record IsSet (n : ℕ) (p : Pair) : Type 0 where
    pair : IsPrintablePair p
    sub : ℕ
    below : sub < n
    keyed : p.key ≡ decimal sub

  set_one : (place : ℕ × ℕ) (o : Option Pair) → value_pair sheet values place ≡ o
      → AllByRecursion (IsSet (suc place.1)) (option_to_list o)
  unfolding value_pair
  set_one place o e = by (is_compact (origin_of sheet.sections place.0 place.1)) (values place) (spelled place) o e
    where
      by : (t : Bool) (v : Option (List ℕ)) → IfSome v (λ bytes. IsValue (text_of_value (kind_at sheet place) bytes))
          → (o : Option Pair)
          → cond t (option_map (λ bytes. record {
            key = decimal place.1;
            value = text_of_value (kind_at sheet place) bytes;
          }) v) None ≡ o
          → AllByRecursion (IsSet (suc place.1)) (option_to_list o)
      by t v is None e = tt
      by true None is (Some p) e = absurd (cc)
      by true (Some bytes) is (Some p) e =
          let pair_is : record { key = decimal place.1; value = text_of_value (kind_at sheet place) bytes } ≡ p =
          cc in (
            record {
              pair = subst IsPrintablePair pair_is
                  (set_pair (decimal place.1) (text_of_value (kind_at sheet place) bytes)
                  (decimal_key place.1) (decimal_open place.1) is);
              sub = place.1;
              below = omega arith;
              keyed = ap (λ (q : Pair). q.key) (sym pair_is);
            },
            tt,
          )
      by false v is (Some p) e = absurd (cc)

  more_set : (n : ℕ) (p : Pair) → IsSet n p → IsSet (suc n) p
  more_set n p h = record { pair = h.pair; sub = h.sub; below = omega (arith, h.below); keyed = h.keyed }

  -- those before another sub have other keys
  set_apart : (n : ℕ) → n < 2 ^ 64 → (p q : Pair) → IsSet n p → q.key ≡ decimal n → same_key p q ≡ false
  set_apart n few p q h is = by (same p.key q.key) refl
    where
      by : (t : Bool) → same p.key q.key ≡ t → t ≡ false
      by true e =
          let alike : h.sub
          ≡ n = same_decimal h.sub n (omega (arith, h.below)) few (sym (ap (λ k. same (decimal h.sub) k) is)
          ∙ sym (ap (λ k. same k q.key) h.keyed) ∙ e) in
          absurd (omega (arith, h.below))
      by false e = refl

  -- of the last sub, at most one pair
  keyed_last : (index n : ℕ) (o : Option Pair) → value_pair sheet values (index, n) ≡ o
      → AllByRecursion (λ q. q.key ≡ decimal n) (option_to_list o)
  keyed_last index n None e = tt
  keyed_last index n (Some p) e = (value_pair_keyed sheet values (index, n) p e, tt)

  one_apart : (o : Option Pair) → AreApart same_key (option_to_list o)
  one_apart None = tt
  one_apart (Some p) = (tt, tt)

  set_all : (index n : ℕ) → AllByRecursion (IsSet n) (filter_map (value_pair sheet values) (first_subs index n))
  set_all index zero = tt
  set_all index (suc n) =
      subst (AllByRecursion (IsSet (suc n)))
      (sym (filter_map-push (value_pair sheet values) (first_subs index n) (index, n)))
      (all_append (IsSet (suc n)) (filter_map (value_pair sheet values) (first_subs index n))
      (option_to_list (value_pair sheet values (index, n)))
      (all_weaker (IsSet n) (IsSet (suc n)) (more_set n) (filter_map (value_pair sheet values) (first_subs index n))
      (set_all index n))
      (set_one (index, n) (value_pair sheet values (index, n)) refl))

  all_set_apart : (index n : ℕ) → n ≤ 2 ^ 64
      → AreApart same_key (filter_map (value_pair sheet values) (first_subs index n))
  all_set_apart index zero few = tt
  all_set_apart index (suc n) few =
      subst (AreApart same_key) (sym (filter_map-push (value_pair sheet values) (first_subs index n) (index, n)))
      (apart_append same_key (filter_map (value_pair sheet values) (first_subs index n))
      (option_to_list (value_pair sheet values (index, n)))
      (all_set_apart index n (omega arith)) (one_apart (value_pair sheet values (index, n)))
      (all_weaker (IsSet n) (λ p. AllByRecursion (λ q. same_key p q ≡ false)
      (option_to_list (value_pair sheet values (index, n))))
      (λ p h. all_weaker (λ q. q.key ≡ decimal n) (λ q. same_key p q ≡ false)
      (λ q is. set_apart n (omega arith) p q h is)
      (option_to_list (value_pair sheet values (index, n)))
      (keyed_last index n (value_pair sheet values (index, n)) refl))
      (filter_map (value_pair sheet values) (first_subs index n)) (set_all index n)))

  -- values that are set: pairs with decimal keys
  pub set_sound : (index highest : ℕ) → highest ≤ 254 → AreSound (values_set sheet values index highest)
  unfolding values_set
  set_sound index highest few = record {
    each = all_weaker (IsSet (highest + 1)) IsPrintablePair (λ p h. h.pair)
        (filter_map (value_pair sheet values) (first_subs index (highest + 1))) (set_all index (highest + 1));
    apart = all_set_apart index (highest + 1) (omega arith);
  }

  pub set_decimal : (index highest : ℕ) → AllByRecursion (λ p. (is_decimal p.key ≡ true) × IsKey p.key × IsOpen p.key)
      (values_set sheet values index highest)
  unfolding values_set
  set_decimal index highest =
      all_weaker (IsSet (highest + 1)) (λ p. (is_decimal p.key ≡ true) × IsKey p.key × IsOpen p.key)
      (λ p h. (
        ap is_decimal h.keyed ∙ decimal_is_decimal h.sub,
        subst IsKey (sym h.keyed) (decimal_key h.sub),
        subst IsOpen (sym h.keyed) (decimal_open h.sub),
      ))
      (filter_map (value_pair sheet values) (first_subs index (highest + 1))) (set_all index (highest + 1))

-- their keys are numbers, whatever their values are
keyed_decimal : (sheet : Sheet) (values : ℕ × ℕ → Option (List ℕ)) (place : ℕ × ℕ) (o : Option Pair)
    → value_pair sheet values place ≡ o → AllByRecursion (λ p. is_decimal p.key ≡ true) (option_to_list o)
keyed_decimal sheet values place None e = tt
keyed_decimal sheet values place (Some p) e =
    (ap is_decimal (value_pair_keyed sheet values place p e) ∙ decimal_is_decimal place.1, tt)

some_decimal : (sheet : Sheet) (values : ℕ × ℕ → Option (List ℕ)) (index n : ℕ)
    → AllByRecursion (λ p. is_decimal p.key ≡ true) (filter_map (value_pair sheet values) (first_subs index n))
some_decimal sheet values index zero = tt
some_decimal sheet values index (suc n) =
    subst (AllByRecursion (λ p. is_decimal p.key ≡ true))
    (sym (filter_map-push (value_pair sheet values) (first_subs index n) (index, n)))
    (all_append (λ p. is_decimal p.key ≡ true) (filter_map (value_pair sheet values) (first_subs index n))
    (option_to_list (value_pair sheet values (index, n)))
    (some_decimal sheet values index n)
    (keyed_decimal sheet values (index, n) (value_pair sheet values (index, n)) refl))

pub set_numbers : (sheet : Sheet) (values : ℕ × ℕ → Option (List ℕ)) (index highest : ℕ)
    → AllByRecursion (λ p. is_decimal p.key ≡ true) (values_set sheet values index highest)
unfolding values_set
set_numbers sheet values index highest = some_decimal sheet values index (highest + 1)

-- ---- a section of values

pub counted_sound : (ps : List Pair) → AreSound ps → AreSound (with_count ps)
counted_sound ps h = sound_put (codes "NrOfEntries") _ count_key refl (decimal_value _) ps h

all_put_sound : (ps set : List Pair) → AreSound ps → AllByRecursion IsPrintablePair set
    → AllByRecursion (λ p. (is_decimal p.key ≡ true) × IsKey p.key × IsOpen p.key) set → AreSound (with_all ps set)
all_put_sound ps [] h each keyed = h
all_put_sound ps (p ∷ set) h each keyed =
    all_put_sound (put_value ps p.key p.value) set (sound_put p.key p.value keyed.0.1 keyed.0.2 each.0.value ps h)
    each.1 keyed.1

decimal_apart : (p q : Pair) → not (is_decimal p.key) ≡ true → is_decimal q.key ≡ true → same_key p q ≡ false
decimal_apart p q plain number = by (same p.key q.key) refl
  where
    by : (t : Bool) → same p.key q.key ≡ t → t ≡ false
    by true e = absurd (false≢true (sym (not-true (is_decimal p.key) plain) ∙ decimal_same p.key q.key e ∙ number))
    by false e = refl

with_set_sound : (modelled : Bool) (ps set : List Pair) → AreSound ps → AreSound set
    → AllByRecursion (λ p. (is_decimal p.key ≡ true) × IsKey p.key × IsOpen p.key) set
    → AreSound (with_set modelled ps set)
with_set_sound true ps set h g keyed =
    sound_append (filter (λ p. not (is_decimal p.key)) ps) set (sound_filter (λ p. not (is_decimal p.key)) ps h) g
    (all_weaker (λ p. not (is_decimal p.key) ≡ true) (λ p. AllByRecursion (λ q. same_key p q ≡ false) set)
    (λ p plain. all_weaker (λ q. (is_decimal q.key ≡ true) × IsKey q.key × IsOpen q.key) (λ q. same_key p q ≡ false)
    (λ q is. decimal_apart p q plain is.0) set keyed)
    (filter (λ p. not (is_decimal p.key)) ps) (all_pass (λ p. not (is_decimal p.key)) ps))
with_set_sound false ps set h g keyed = all_put_sound ps set h g.each keyed

pub values_sound : (modelled : Bool) (ps set : List Pair) → AreSound ps → AreSound set
    → AllByRecursion (λ p. (is_decimal p.key ≡ true) × IsKey p.key × IsOpen p.key) set
    → AreSound (values_pairs modelled ps set)
unfolding values_pairs
values_sound modelled ps set h g keyed = by ((modelled && list_any (λ p. is_decimal p.key) ps) || not (length set == 0))
  where
    by : (t : Bool) → AreSound (cond t (with_count (with_set modelled ps set)) ps)
    by true = counted_sound (with_set modelled ps set) (with_set_sound modelled ps set h g keyed)
    by false = h
