-- A text that gives an entry bytes spells them, and the entry may be given them.
use Rattle.std.proofs.Common.{◌≡◌, ◌↔◌, ℕ, Bool, true, false, not, ◌||◌, ◌&&◌, ℤ, ◌≤ℤ◌, int_lt, List, Option, Some}
use Rattle.std.proofs.Common.{None, Result, Ok, Err, IfSome, refl, ap, subst, arith}
use Rattle.std.specs.Prelude.{if◌then◌else◌}
use Rattle.std.specs.Option.{option_map_or}
use Rattle.std.proofs.lemmas.Int.{ints}
use Rattle.co_values.specs.Types.{is_integer, is_modelled}
use Rattle.co_values.specs.Values.{value, number_in}
use Rattle.co_dict.specs.declared.entry.Entry.{Entry}
use Rattle.co_dict.specs.Accesses.{is_writable}
use Rattle.node_parameters.specs.declared.parameter_fault.ParameterFault.{ParameterFault}
use Rattle.node_parameters.specs.declared.parameter_fault.ParameterFault.TheVariants.{NotModelled, NotWritable, Unreadable}
use Rattle.node_parameters.specs.declared.parameter_fault.ParameterFault.TheVariants.{OutsideLimits}
use Rattle.node_parameters.specs.Judgement.{is_outside, breaks_limit, within_limits, parameter_bytes_at, parameter_bytes}
use Rattle.node_parameters.specs.Judgement.{Suits}

abbrev Given : Type 0
Given = Result (List ℕ) ParameterFault

-- ---- limits

at_least : (a b : ℤ) → int_lt a b ≡ false → b ≤ℤ a
at_least a b test = grind (arith, ints)

not_less : (a b : ℤ) → b ≤ℤ a → int_lt a b ≡ false
not_less a b le = grind (arith, ints)

above_low : (number : ℤ) (low : Option ℤ) (rest : Bool) → option_map_or (λ l. int_lt number l) low false || rest ≡ false
    → IfSome low (λ l. l ≤ℤ number)
above_low number None rest test = tt
above_low number (Some low) rest test = by (int_lt number low) refl test
  where
    by : (b : Bool) → int_lt number low ≡ b → b || rest ≡ false → low ≤ℤ number
    by true is e = cc
    by false is e = at_least number low is

below_high : (number : ℤ) (high : Option ℤ) (first : Bool)
    → first || option_map_or (λ h. int_lt h number) high false ≡ false → IfSome high (λ h. number ≤ℤ h)
below_high number None first test = tt
below_high number (Some high) true test = cc
below_high number (Some high) false test = at_least high number test

keeps_low : (number : ℤ) (low : Option ℤ) → IfSome low (λ l. l ≤ℤ number)
    → option_map_or (λ l. int_lt number l) low false ≡ false
keeps_low number None le = refl
keeps_low number (Some low) le = not_less number low le

keeps_high : (number : ℤ) (high : Option ℤ) → IfSome high (λ h. number ≤ℤ h)
    → option_map_or (λ h. int_lt h number) high false ≡ false
keeps_high number None le = refl
keeps_high number (Some high) le = not_less high number le

-- bytes that break no limit: their number is outside none
inside : (entry : Entry) (integer : Bool) (o : Option ℤ) (number : ℤ)
    → integer && option_map_or (is_outside entry) o false ≡ false → integer ≡ true → o ≡ Some number
    → is_outside entry number ≡ false
inside entry true None number test of_integer is = cc
inside entry true (Some read) number test of_integer is = let same : read ≡ number = cc
    in subst (λ n. is_outside entry n ≡ false) same test
inside entry false o number test of_integer is = cc

keeps : (entry : Entry) (integer : Bool) (o : Option ℤ)
    → ((number : ℤ) → integer ≡ true → o ≡ Some number → is_outside entry number ≡ false)
    → integer && option_map_or (is_outside entry) o false ≡ false
keeps entry true None h = refl
keeps entry true (Some number) h = h number refl refl
keeps entry false o h = refl

-- ---- the tests in turn

read_within : (entry : Entry) (o : Option (List ℕ)) (bytes : List ℕ)
    → option_map_or (within_limits entry) o (Err Unreadable) ≡ Ok bytes
    → (o ≡ Some bytes) × (breaks_limit entry bytes ≡ false)
read_within entry None bytes e = cc
read_within entry (Some read) bytes e = by (breaks_limit entry read) refl e
  where
    by : (b : Bool) → breaks_limit entry read ≡ b
        → (let r : Given = if b then Err OutsideLimits else Ok read in r ≡ Ok bytes)
        → (Some read ≡ Some bytes) × (breaks_limit entry bytes ≡ false)
    by true is e = cc
    by false is e = let same : read ≡ bytes = cc
        in (ap Some same, subst (λ (x : List ℕ). breaks_limit entry x ≡ false) same is)

suits_by : (entry : Entry) (text bytes : List ℕ) (node : ℕ) (m w : Bool) → is_modelled entry.kind ≡ m
    → is_writable entry.access ≡ w
    → (let r : Given = if not m then Err NotModelled else if not w then Err NotWritable
    else option_map_or (within_limits entry) (value entry.kind text node) (Err Unreadable) in r ≡ Ok bytes)
    → Suits entry text bytes node
suits_by entry text bytes node false w modelled writable e = cc
suits_by entry text bytes node true false modelled writable e = cc
suits_by entry text bytes node true true modelled writable e =
    let read = read_within entry (value entry.kind text node) bytes e in
    record {
      modelled = modelled;
      writable = writable;
      spelled = read.0;
      above_low = λ number integer is. above_low number entry.low _ (inside entry (is_integer entry.kind)
          (number_in entry.kind bytes) number read.1 integer is);
      below_high = λ number integer is. below_high number entry.high _ (inside entry (is_integer entry.kind)
          (number_in entry.kind bytes) number read.1 integer is);
    }

suits : (entry : Entry) (text bytes : List ℕ) (node : ℕ) → parameter_bytes_at entry text node ≡ Ok bytes
    → Suits entry text bytes node
suits entry text bytes node e = suits_by entry text bytes node (is_modelled entry.kind)
    (is_writable entry.access) refl refl e

none_broken : (entry : Entry) (text bytes : List ℕ) (node : ℕ) → Suits entry text bytes node
    → breaks_limit entry bytes ≡ false
none_broken entry text bytes node s = keeps entry (is_integer entry.kind) (number_in entry.kind bytes) within
  where
    within : (number : ℤ) → is_integer entry.kind ≡ true → number_in entry.kind bytes ≡ Some number
        → is_outside entry number ≡ false
    within number integer is = rw (
      keeps_low number entry.low (s.above_low number integer is),
      keeps_high number entry.high (s.below_high number integer is),
    ) refl

given : (entry : Entry) (text bytes : List ℕ) (node : ℕ) → Suits entry text bytes node
    → parameter_bytes_at entry text node ≡ Ok bytes
given entry text bytes node s = by (is_modelled entry.kind) (is_writable entry.access)
    (value entry.kind text node) s.modelled s.writable s.spelled (none_broken entry text bytes node s)
  where
    by : (m w : Bool) (o : Option (List ℕ)) → m ≡ true → w ≡ true → o ≡ Some bytes → breaks_limit entry bytes ≡ false
        → (let r : Given = if not m then Err NotModelled else if not w then Err NotWritable
        else option_map_or (within_limits entry) o (Err Unreadable) in r ≡ Ok bytes)
    by m w o modelled writable spelled unbroken = rw (modelled, writable, spelled)
        (last (breaks_limit entry bytes) unbroken)
      where
        last : (b : Bool) → b ≡ false → (let r : Given = if b then Err OutsideLimits else Ok bytes in r ≡ Ok bytes)
        last true e = cc
        last false e = refl

pub judged_suits : (entry : Entry) (text bytes : List ℕ) (node : ℕ)
    → (parameter_bytes (Some entry) text node ≡ Ok bytes) ↔ Suits entry text bytes node
unfolding parameter_bytes
judged_suits entry text bytes node = (suits entry text bytes node, given entry text bytes node)

-- a text gives bytes to entries alone
pub judged_entry : (o : Option Entry) (text bytes : List ℕ) (node : ℕ) → parameter_bytes o text node ≡ Ok bytes
    → (entry : Entry) × (o ≡ Some entry) × Suits entry text bytes node
unfolding parameter_bytes
judged_entry None text bytes node e = cc
judged_entry (Some entry) text bytes node e = (entry, refl, suits entry text bytes node e)
