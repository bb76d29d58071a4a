-- The map that a tree by names makes.
use Rattle.std.proofs.Common.{◌≡◌, ℕ, Vec, sym, ◌∙◌, List, [], ◌∷◌, length, suc, Bool, true, false, cond, ◌⊎◌, Option}
use Rattle.std.proofs.Common.{Some, None, inl, inr, refl, ap, subst}
use Rattle.std.specs.declared.cmp.Ordering.{Ordering}
use Rattle.std.specs.declared.cmp.Ordering.TheVariants.{Less}
use Rattle.std.specs.List.{AllByRecursion, AllZip}
use Rattle.std.specs.List.Sorted.{IsStrictlySortedBy}
use Rattle.std.specs.Map.{lookup, keys_of}
use Rattle.std.specs.BTreeMap.{is_at}
use Rattle.std.specs.FinMap.{FinMap, entries, from_entries, get, insert, len, remove}
use Rattle.std.proofs.lemmas.Cmp.{nat_list_cmp_total}
use Rattle.std.proofs.lemmas.Map.Lookups.{exact_bytes}
use Rattle.std.proofs.lemmas.Map.Views.{tells_apart}
use Rattle.base.proofs.TableLemmas.{entries_made, get_made, len_made, made_put, made_removed}
use Rattle.project_messages.specs.Messages.{by_name, name_cmp}

-- the order of its keys
abbrev pub key_cmp : {A : Type 0} → Vec ℕ A → Vec ℕ A → Ordering
key_cmp a b = name_cmp a.items b.items

module _ {A X : Type 0} where
  -- the map that it makes
  abbrev pub made : List (Vec ℕ A × X) → FinMap name_cmp X
  made es = from_entries (by_name es)

  -- what it has at the bytes of a name
  abbrev pub value_in : List (Vec ℕ A × X) → List ℕ → Option X
  value_in es name = lookup (λ k. is_at (name_cmp name) k.items) es

  -- a look-up by the bytes of a key
  by_bytes : (name : List ℕ) (es : List (Vec ℕ A × X)) → lookup (is_at (name_cmp name)) (by_name es) ≡ value_in es name
  by_bytes name [] = refl
  by_bytes name (e ∷ es) = ap (cond (is_at (name_cmp name) e.0.items) (Some e.1)) (by_bytes name es)

  -- the value of a name
  pub value_found : (es : List (Vec ℕ A × X)) (name : List ℕ) → get (made es) name ≡ value_in es name
  value_found es name = get_made nat_list_cmp_total exact_bytes (by_name es) name ∙ by_bytes name es

  -- a name that has a value is that of a key
  pub key_of : (es : List (Vec ℕ A × X)) (name : List ℕ) (value : X) → value_in es name ≡ Some value
      → (key : Vec ℕ A) × (key.items ≡ name)
  key_of [] name value is = cc
  key_of (e ∷ es) name value is = by (is_at (name_cmp name) e.0.items) refl is (key_of es name value)
    where
      by : (t : Bool) → is_at (name_cmp name) e.0.items ≡ t → cond t (Some e.1) (value_in es name) ≡ Some value
          → (value_in es name ≡ Some value → (key : Vec ℕ A) × (key.items ≡ name))
          → (key : Vec ℕ A) × (key.items ≡ name)
      by true same is rest = (e.0, sym (tells_apart exact_bytes name e.0.items same))
      by false other is rest = rest is

  module _ (es fs : List (Vec ℕ A × X)) (name : List ℕ) (value : Option X) where
    -- trees that differ at the keys of a name
    abbrev pub DifferAtKeys : Type 0
    DifferAtKeys = (q : Vec ℕ A) → value_in fs q.items
        ≡ cond (is_at (name_cmp name) q.items) value (value_in es q.items)

    abbrev pub DifferAt : List ℕ → Type 0
    DifferAt q = value_in fs q ≡ cond (is_at (name_cmp name) q) value (value_in es q)

    -- differ there alone, if names that no key has make no difference
    differ : DifferAtKeys → ((q : List ℕ) → cond (is_at (name_cmp name) q) value None ≡ None ⊎ DifferAt q)
        → (q : List ℕ) → lookup (is_at (name_cmp q)) (by_name fs)
        ≡ cond (is_at (name_cmp name) q) value (lookup (is_at (name_cmp q)) (by_name es))
    differ h others q = by_bytes q fs ∙ by (value_in es q) (value_in fs q) refl refl (others q)
        ∙ ap (cond (is_at (name_cmp name) q) value) (sym (by_bytes q es))
      where
        at : (key : Vec ℕ A) × (key.items ≡ q) → DifferAt q
        at key = subst DifferAt key.1 (h key.0)

        by : (old new : Option X) → value_in es q ≡ old → value_in fs q ≡ new
            → cond (is_at (name_cmp name) q) value None ≡ None ⊎ DifferAt q → DifferAt q
        by (Some v) new e g other = at (key_of es q v e)
        by None (Some v) e g other = at (key_of fs q v g)
        by None None e g (inl none) = g ∙ sym none ∙ ap (cond (is_at (name_cmp name) q) value) (sym e)
        by None None e g (inr differs) = differs

  -- a value that is put
  pub value_put : (es fs : List (Vec ℕ A × X)) (key : Vec ℕ A) (value : X) → DifferAtKeys es fs key.items (Some value)
      → made fs ≡ insert (made es) key.items value
  value_put es fs key value h =
      made_put nat_list_cmp_total exact_bytes (by_name es) (by_name fs) key.items value
      (differ es fs key.items (Some value) h (λ q. by q (is_at (name_cmp key.items) q) refl))
    where
      by : (q : List ℕ) (t : Bool) → is_at (name_cmp key.items) q ≡ t
          → cond t (Some value) None ≡ None ⊎ DifferAt es fs key.items (Some value) q
      by q true same = inr (subst (DifferAt es fs key.items (Some value)) (tells_apart exact_bytes key.items q same)
          (h key))
      by q false other = inl refl

  -- a value that is changed at a name that has one
  pub value_changed : (es fs : List (Vec ℕ A × X)) (name : List ℕ) (old value : X) → Some old ≡ value_in es name
      → DifferAtKeys es fs name (Some value) → made fs ≡ insert (made es) name value
  value_changed es fs name old value found h = by (key_of es name old (sym found))
    where
      by : (key : Vec ℕ A) × (key.items ≡ name) → made fs ≡ insert (made es) name value
      by key =
          value_put es fs key.0 value (subst (λ (n : List ℕ). DifferAtKeys es fs n (Some value)) (sym key.1) h)
          ∙ ap (λ n. insert (made es) n value) key.1

  -- a value that is taken away
  pub value_removed : (es fs : List (Vec ℕ A × X)) (name : List ℕ) → DifferAtKeys es fs name None
      → made fs ≡ remove (made es) name
  value_removed es fs name h = made_removed nat_list_cmp_total exact_bytes (by_name es)
      (by_name fs) name (differ es fs name None h (λ q. inl (by (is_at (name_cmp name) q))))
    where
      by : (t : Bool) → ◌≡◌ {A = Option X} (cond t None None) None
      by true = refl
      by false = refl

  below : (k : Vec ℕ A) (es : List (Vec ℕ A × X)) → AllByRecursion (λ x. key_cmp k x ≡ Less) (keys_of es)
      → AllByRecursion (λ x. name_cmp k.items x ≡ Less) (keys_of (by_name es))
  below k [] h = tt
  below k (e ∷ es) h = (h.0, below k es h.1)

  in_order : (es : List (Vec ℕ A × X)) → IsStrictlySortedBy key_cmp (keys_of es)
      → IsStrictlySortedBy name_cmp (keys_of (by_name es))
  unfolding IsStrictlySortedBy
  in_order [] h = tt
  in_order (e ∷ es) h = (below e.0 es h.0, in_order es h.1)

  -- its entries are those of the tree
  pub values_made : (es : List (Vec ℕ A × X)) → IsStrictlySortedBy key_cmp (keys_of es) → entries (made es) ≡ by_name es
  values_made es h = entries_made nat_list_cmp_total exact_bytes (by_name es) (in_order es h)

  length-by_name : (es : List (Vec ℕ A × X)) → length (by_name es) ≡ length es
  length-by_name [] = refl
  length-by_name (e ∷ es) = ap suc (length-by_name es)

  -- and as many
  pub values_counted : (es : List (Vec ℕ A × X)) → IsStrictlySortedBy key_cmp (keys_of es) → len (made es) ≡ length es
  values_counted es h = len_made nat_list_cmp_total exact_bytes (by_name es) (in_order es h) ∙ length-by_name es

  -- a copy of a tree, name by name and value by value, is the same by name
  pub by_name_copied : (C : Vec ℕ A → Vec ℕ A → Type 0) (D : X → X → Type 0)
      → ((k q : Vec ℕ A) → C k q → q.items ≡ k.items) → ((v w : X) → D v w → w ≡ v) → (es fs : List (Vec ℕ A × X))
      → AllZip (λ e f. C e.0 f.0 × D e.1 f.1) es fs → by_name fs ≡ by_name es
  by_name_copied C D names values [] [] h = refl
  by_name_copied C D names values [] (f ∷ fs) h = absurd h
  by_name_copied C D names values (e ∷ es) [] h = absurd h
  by_name_copied C D names values (e ∷ es) (f ∷ fs) h = λ i.
      (names e.0 f.0 h.0.0 i, values e.1 f.1 h.0.1 i) ∷ by_name_copied C D names values es fs h.1 i
