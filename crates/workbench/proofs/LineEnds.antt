-- Lines that have no CRs at their ends to lose.
use Rattle.std.proofs.Common.{◌≡◌, ℕ, zero, suc, ◌-◌, Bool, true, false, nat_lt, List, [], ◌∷◌, map, reverse, length}
use Rattle.std.proofs.Common.{take, Result, Ok, Err, None, refl, sym, ap, subst, ◌∙◌, arith}
use Rattle.std.specs.Prelude.{◌==◌, if◌then◌else◌, codes}
use Rattle.std.specs.List.{list_any, onto_first, prefix_len, suffix_len}
use Rattle.std.specs.Str.{bytes_eq}
use Rattle.std.proofs.lemmas.Bool.{or_parts}
use Rattle.std.proofs.lemmas.Bool.Decides.{nat_tests}
use Rattle.std.proofs.lemmas.List.{reverse-append, take_all}
use Rattle.std.proofs.lemmas.List.Folds.{list_any-append}
use Rattle.base.specs.Blanks.{trim_end}
use Rattle.base.specs.Lines.{is_cr}
use Rattle.base.specs.Lines.{lines_of}
use Rattle.project_edits.specs.declared.fault.EditFault.{EditFault}
use Rattle.project_edits.specs.declared.fault.EditFault.TheVariants.{Syntax}
use Rattle.project_edits.specs.declared.edit.Edit.{Edit}
use Rattle.project_edits.specs.declared.edit.Edit.TheVariants as edit
use Rattle.script_commands.specs.declared.request.Request.{Request}
use Rattle.script_commands.specs.declared.request.Request.TheVariants.{Block}
use Rattle.project_edits.specs.Accepts.{unless}
use Rattle.project_edits.specs.Forms.{is_control}
use Rattle.script_commands.specs.Words.{last_word, decimal, is_bad_line}
use Rattle.base.specs.Words.{word, after}
use Rattle.base.specs.Steps.{◌>>=◌}
use Rattle.script_commands.specs.Requests.{request, block_of as block_asked, block_lines, command_of}
use Rattle.project_edits.specs.Eds.{eds_edit, text_of}
use Rattle.project_edits.specs.Lines.{block_of}
use Rattle.script_commands.specs.Asked.{asks}
use Rattle.workbench.specs.Lines.{has_break, AreLines}
use Rattle.workbench.proofs.Lines.{lines-ended}

-- ---- a line without CRs

module _ (p : ℕ → Bool) where
  -- where no byte of a list passes, none of the reversed list does
  none_reversed : (bs : List ℕ) → list_any p bs ≡ false → list_any p (reverse bs) ≡ false
  none_reversed [] h = refl
  none_reversed (b ∷ bs) h =
      let both = or_parts (p b) (list_any p bs) h in
      ap (list_any p) (reverse-append (b ∷ []) bs) ∙ list_any-append p (reverse bs) (b ∷ [])
      ∙ rw (none_reversed bs both.1, both.0) refl

  -- where none passes, the first doesn't
  none_first : (bs : List ℕ) → list_any p bs ≡ false → prefix_len p bs ≡ 0
  none_first [] h = refl
  none_first (b ∷ bs) h = rw (or_parts (p b) (list_any p bs) h).0 refl

  -- and nothing is lost at the end
  none_lost : (bs : List ℕ) → list_any p bs ≡ false → trim_end p bs ≡ bs
  none_lost bs h =
      let none : suffix_len p bs ≡ 0 = none_first (reverse bs) (none_reversed bs h) in
      take_all (length bs - suffix_len p bs) bs (omega arith)

-- a CR is a control byte, so there is none where there are no control bytes
no_cr : (bs : List ℕ) → list_any is_control bs ≡ false → list_any is_cr bs ≡ false
no_cr [] h = refl
no_cr (b ∷ bs) h =
    let both = or_parts (is_control b) (list_any is_control bs) h in
    rw (one b both.0) (no_cr bs both.1)
  where
    one : (b : ℕ) → is_control b ≡ false → is_cr b ≡ false
    one b h = grind (arith, nat_tests)

-- ---- the line of a request

-- something is asked, and a block has a name
abbrev IsNamed : Result Request EditFault → Type 0
IsNamed (Err fault) = ⊥
IsNamed (Ok (Block None lines)) = ⊥
IsNamed (Ok other) = Unit {0}

-- two steps ask nothing where the second one doesn't
no_step : {A : Type 0} (r : Result A EditFault) (f : A → Result Request EditFault) → ((x : A) → IsNamed (f x) → ⊥)
    → IsNamed (r >>= f) → ⊥
no_step (Ok x) f h named = h x named
no_step (Err fault) f h named = named

-- a bad line names no block
bad_unnamed : (rest : List ℕ) → IsNamed (block_asked true rest) → ⊥
unfolding block_asked
bad_unnamed rest =
    no_step (last_word (after rest)) _ (λ last. no_step (decimal last) _
    (λ number. no_step (block_lines number) _ (λ lines named. named)))

-- so a line that names its block, or asks for another thing, is no bad line
named_is_good : (line : List ℕ) → IsNamed (request line) → is_bad_line line ≡ false
unfolding request
named_is_good line named = by (bytes_eq (word line) (codes "eds")) (is_bad_line line) refl named
  where
    by : (eds bad : Bool) → is_bad_line line ≡ bad
        → IsNamed (if eds then block_asked bad (after line) else if bad then Err Syntax
        else command_of (word line) (after line)) → is_bad_line line ≡ false
    by eds false h named = h
    by true true h named = absurd (bad_unnamed (after line) named)
    by false true h named = absurd named

-- edits are named
order_named : (o : Edit) → IsNamed (Ok (asks o))
order_named (edit.Eds name text) = tt
order_named other = tt

-- the line of an edit has no CRs at its end
pub asked_line : (o : Edit) (line : List ℕ) → request line ≡ Ok (asks o) → trim_end is_cr line ≡ line
asked_line o line asked =
    let named : IsNamed (request line) = subst IsNamed (sym asked) (order_named o) in
    let good = or_parts (nat_lt 4096 (length line)) (list_any is_control line) (named_is_good line named) in
    none_lost is_cr line (no_cr line good.1)

-- ---- the lines of an EDS

-- the front of a line has no LF where the line has none
front_of_line : (n : ℕ) (line : List ℕ) → has_break line ≡ false → has_break (take n line) ≡ false
front_of_line zero line h = refl
front_of_line (suc n) [] h = refl
front_of_line (suc n) (b ∷ line) h =
    let both = or_parts (b == 10) (has_break line) h in
    rw both.0 (front_of_line n line both.1)

-- the lines of a text are lines
lines_are : (text : List ℕ) → AreLines (lines_of text)
unfolding lines_of
lines_are [] = refl
lines_are (b ∷ text) = by (b == 10) refl (lines_of text) (lines_are text)
  where
    by : (t : Bool) → (b == 10) ≡ t → (lines : List (List ℕ)) → AreLines lines
        → AreLines (if t then [] ∷ lines else onto_first b lines)
    by true h lines are = are
    by false h [] are = rw h refl
    by false h (line ∷ lines) are = rw h are

-- lines that are ended, without the CRs at their ends, are read as such
ended_again : (lines : List (List ℕ)) → AreLines lines → lines_of (text_of lines) ≡ map (trim_end is_cr) lines
unfolding lines_of
ended_again [] are = refl
ended_again (line ∷ lines) are =
    let both = or_parts (has_break line) (list_any has_break lines) are in
    lines-ended (trim_end is_cr line) (text_of lines) (front_of_line _ line both.0)
    ∙ ap (λ (ls : List (List ℕ)). trim_end is_cr line ∷ ls) (ended_again lines both.1)

-- what is taken is what was given
given : {X : Type 0} (tests : List (Bool × EditFault)) (new taken : X) → unless tests new ≡ Ok taken → new ≡ taken
given [] new taken h = cc
given ((true, fault) ∷ tests) new taken h = cc
given ((false, fault) ∷ tests) new taken h = given tests new taken h

-- the lines of an EDS have no CRs at their ends
pub eds_lines : (name text : List ℕ) → eds_edit name (lines_of text) ≡ Ok (edit.Eds name text)
    → map (trim_end is_cr) (lines_of text) ≡ lines_of text
unfolding eds_edit
eds_lines name text is =
    let lines = lines_of text in
    let same : edit.Eds name (text_of lines) ≡ edit.Eds name text = search given in
    sym (ended_again lines (lines_are text)) ∙ ap (λ (o : Edit). lines_of (block_of o)) same
