-- Dictionaries of which a part is as another has it.
use Rattle.std.proofs.Common.{◌≡◌, ℕ, Bool, List, [], ◌∷◌, ◌++◌, not, Option, Some, None, true, false}
use Rattle.std.proofs.Common.{◌&&◌, T, cond, refl, sym, ap, ◌∙◌}
use Rattle.std.specs.Prelude.{if◌then◌else◌}
use Rattle.std.specs.declared.cmp.Ordering.{Ordering}
use Rattle.std.specs.declared.cmp.Ordering.TheVariants.{Less, Equal, Greater}
use Rattle.std.specs.Option.{option_or}
use Rattle.std.specs.Ordering.{is_lt, is_eq, eq_by_cmp}
use Rattle.std.specs.FinMap.{insert, get, get-insert, get-entries, get-from_entries}
use Rattle.std.specs.FinMap.{get-retain_keys, entries, find, is_sorted, retain_keys}
use Rattle.std.specs.FinMap.Entries.{below_all}
use Rattle.base.specs.Ranges.{is_between}
use Rattle.dict_values.specs.Places.{place_cmp}
use Rattle.dict_values.specs.Restored.{is_kept, with_all, with_restored}
use Rattle.dict_values.specs.Values.{Values}
use Rattle.dict_values.proofs.PlaceLemmas.{part_first, part_second, places_exact, places_total, tied}
use Rattle.dict_values.proofs.PlaceLemmas.{written_there}

-- ---- what is at a place

less_apart : (r : Ordering) → T (is_lt r) → is_eq r ≡ false
less_apart Less h = refl
less_apart Equal h = absurd h
less_apart Greater h = refl

-- a place below all of a list is not in it
pub none_below : (x : ℕ × ℕ) (es : List ((ℕ × ℕ) × List ℕ)) → T (below_all place_cmp x es) → find place_cmp x es ≡ None
none_below x [] h = refl
none_below x (e ∷ es) h = rw (less_apart (place_cmp x e.0) (part_first _ _ h)) (none_below x es (part_second _ _ h))

either_other : (test : Bool) (values : Values) (place : ℕ × ℕ) (bytes : List ℕ) (q : ℕ × ℕ)
    → eq_by_cmp place_cmp q place ≡ false → get (if test then insert values place bytes else values) q ≡ get values q
either_other true values place bytes q other = get-insert places_total values place bytes q
    ∙ ap (λ b. cond b (Some bytes) (get values q)) other
either_other false values place bytes q other = refl

module _ (first last : ℕ) (inside : Bool) where
  abbrev Written : List ((ℕ × ℕ) × List ℕ) → Values → Values
  Written = with_all first last inside

  -- what is kept has its new value, if any
  abbrev Now : Bool → Option (List ℕ) → Option (List ℕ) → Option (List ℕ)
  Now kept new old = cond kept (option_or new old) old

  here : (kept : Bool) (values : Values) (e : (ℕ × ℕ) × List ℕ)
      → Now kept None (get (if kept then insert values e.0 e.1 else values) e.0) ≡ Now kept (Some e.1) (get values e.0)
  here true values e = written_there values e.0 e.1
  here false values e = refl

  pub written_at : (es : List ((ℕ × ℕ) × List ℕ)) (values : Values) (q : ℕ × ℕ) → T (is_sorted place_cmp es)
      → get (Written es values) q ≡ Now (is_kept first last inside q.0) (find place_cmp q es) (get values q)
  written_at [] values q sorted = nothing (is_kept first last inside q.0) _
    where
      nothing : (kept : Bool) (o : Option (List ℕ)) → o ≡ Now kept None o
      nothing true o = refl
      nothing false o = refl
  written_at (e ∷ es) values q sorted =
      by (eq_by_cmp place_cmp q e.0) refl (written_at es next q (part_second _ _ sorted))
    where
      next : Values
      next = if is_kept first last inside e.0.0 then insert values e.0 e.1 else values

      by : (b : Bool) → eq_by_cmp place_cmp q e.0 ≡ b
          → get (Written es next) q ≡ Now (is_kept first last inside q.0) (find place_cmp q es) (get next q)
          → get (Written es next) q ≡ Now (is_kept first last inside q.0) (cond b (Some e.1) (find place_cmp q es))
          (get values q)
      by true same rest =
          let at : q ≡ e.0 = places_exact q e.0 (tied _ same) in
          let gone : find place_cmp q es ≡ None = ap (λ p. find place_cmp p es) at
          ∙ none_below e.0 es (part_first _ _ sorted) in
          rest
          ∙ ap (λ o. Now (is_kept first last inside q.0) o (get next q)) gone
          ∙ ap (λ (p : ℕ × ℕ). Now (is_kept first last inside p.0) None (get next p)) at
          ∙ here (is_kept first last inside e.0.0) values e
          ∙ sym (ap (λ (p : ℕ × ℕ). Now (is_kept first last inside p.0) (Some e.1) (get values p)) at)
      by false other rest = rest ∙ ap (Now (is_kept first last inside q.0) (find place_cmp q es))
          (either_other (is_kept first last inside e.0.0) values e.0 e.1 q other)

pub find-append : (q : ℕ × ℕ) (es fs : List ((ℕ × ℕ) × List ℕ))
    → find place_cmp q (es ++ fs) ≡ option_or (find place_cmp q es) (find place_cmp q fs)
find-append q [] fs = refl
find-append q (e ∷ es) fs = by (eq_by_cmp place_cmp q e.0) (find-append q es fs)
  where
    by : (b : Bool) → find place_cmp q (es ++ fs) ≡ option_or (find place_cmp q es) (find place_cmp q fs)
        → cond b (Some e.1) (find place_cmp q (es ++ fs)) ≡ option_or (cond b (Some e.1) (find place_cmp q es))
        (find place_cmp q fs)
    by true rest = refl
    by false rest = rest

split : (within : Bool) (a b : Option (List ℕ))
    → option_or (cond within a None) (cond (not within) b None) ≡ cond within a b
split true None b = refl
split true (Some x) b = refl
split false a b = refl

-- within the range the other's value, elsewhere the own
pub restored_at : (first last : ℕ) (other values : Values) (q : ℕ × ℕ)
    → get (with_restored first last other values) q ≡ cond (is_between first last q.0) (get other q) (get values q)
unfolding with_restored
restored_at first last other values q =
    let within : ℕ × ℕ → Bool = λ p. is_between first last p.0 in
    let alike : (p : ℕ × ℕ → Bool) (x : ℕ × ℕ) → place_cmp q x ≡ Equal
    → p x ≡ p q = λ p x same. sym (ap p (places_exact q x same)) in
    let mine : Values = retain_keys values (λ p. not (within p)) in
    let others : Values = retain_keys other within in
    get-from_entries places_total (entries others ++ entries mine) q
    ∙ find-append q (entries others) (entries mine)
    ∙ ap (λ o. option_or o (find place_cmp q (entries mine)))
    (sym (get-entries others q) ∙ get-retain_keys other within q (alike within))
    ∙ ap (option_or (cond (within q) (get other q) None))
    (sym (get-entries mine q) ∙ get-retain_keys values (λ p. not (within p)) q (alike (λ p. not (within p))))
    ∙ split (within q) (get other q) (get values q)
