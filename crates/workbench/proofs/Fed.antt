-- The script of a project, fed to a new session.
use Rattle.std.proofs.Common.{◌≡◌, ℕ, suc, false, List, [], ◌∷◌, ◌++◌, All, map, flat_map, length, drop, get_or, nat_le}
use Rattle.std.proofs.Common.{Result, Ok, Err, Some, None, refl, sym, ap, ◌∙◌, append_assoc, append-nil, sub-one}
use Rattle.std.specs.List.{list_all}
use Rattle.std.proofs.Math.Bool.{and-false}
use Rattle.std.proofs.lemmas.List.Elements.{All-head, All-tail}
use Rattle.base.specs.Blanks.{is_blank, trim_end}
use Rattle.base.specs.Lines.{is_cr}
use Rattle.base.specs.Lines.{lines_of}
use Rattle.project_edits.specs.declared.fault.EditFault.{EditFault}
use Rattle.project_edits.specs.declared.edit.Edit.{Edit}
use Rattle.project_edits.specs.declared.edit.Edit.TheVariants as edit
use Rattle.script_commands.specs.Requests.{request}
use Rattle.project_edits.specs.Eds.{eds_edit}
use Rattle.project_edits.specs.Eds.{IsEds}
use Rattle.project_edits.specs.Edits.{IsEdit}
use Rattle.project_edits.specs.Lines.{words_of, line_of, block_of, text_of}
use Rattle.script_commands.specs.Asked.{asks}
use Rattle.base.specs.Lines.{line_count}
use Rattle.co_project.specs.Project.{Content, first, accept, accept_all}
use Rattle.project_script.specs.Script.{edits, script}
use Rattle.co_project.specs.Sound.{IsSound}
use Rattle.workbench.specs.Replies.{State, After, start, ok_reply, with_reply, in_block, after_request, is_skipped}
use Rattle.workbench.specs.Replies.{after_line, after_lines, cut_off, replies}
use Rattle.workbench.proofs.LineEnds.{asked_line, eds_lines}

-- a project, and no block
abbrev at : Content → State
at p = record { project = p; block = None }

-- some lines more
abbrev then_lines : After State → List (List ℕ) → After State
then_lines one lines =
    let others = after_lines one.state lines in
    record { state = others.state; replies = one.replies ++ others.replies }

-- ---- an edit

-- the line of an edit begins with a letter
letter_first : (o : Edit) → list_all is_blank (line_of o) ≡ false
unfolding line_of words_of
letter_first (edit.Bitrate rate) = refl
letter_first other = refl

-- so it isn't skipped
not_skipped : (o : Edit) → is_skipped (line_of o) ≡ false
not_skipped o = rw (letter_first o) (and-false (nat_le (length (line_of o)) 4096))

-- the line of an edit asks for it
line_fed : (p : Content) (o : Edit) → request (line_of o) ≡ Ok (asks o)
    → after_line (at p) (line_of o) ≡ after_request p (Ok (asks o))
unfolding after_line
line_fed p o is = rw (asked_line o (line_of o) is, not_skipped o, is) refl

-- one more line of a block
line_came : (p : Content) (name line : List ℕ) (n : ℕ) (came : List (List ℕ)) → trim_end is_cr line ≡ line
    → after_line (record { project = p; block = Some (record { name = Some name; left = suc n; lines = came }) }) line
    ≡ in_block p (Some name) n (came ++ line ∷ [])
unfolding after_line
line_came p name line n came kept = rw (kept, sub-one (suc n)) refl

module _ (p q : Content) (o : Edit) (taken : accept p o ≡ Ok q) where
  -- the lines that are to come complete a block, and its edit is taken
  block_fed : (name : List ℕ) (came lines rest : List (List ℕ)) → map (trim_end is_cr) lines ≡ lines
      → eds_edit name (came ++ lines) ≡ Ok o
      → then_lines (in_block p (Some name) (length lines) came) (lines ++ rest)
      ≡ then_lines (with_reply q ok_reply) rest
  block_fed name came [] rest ends is =
      let whole : eds_edit name came ≡ Ok o = ap (eds_edit name) (sym (append-nil came)) ∙ is in
      rw (whole, taken) refl
  block_fed name came (line ∷ lines) rest ends is =
      let kept : trim_end is_cr line ≡ line = ap (λ (ls : List (List ℕ)). get_or ls 0 []) ends in
      let whole : eds_edit name ((came ++ line ∷ []) ++ lines) ≡ Ok o = ap (eds_edit name)
      (append_assoc came (line ∷ []) lines) ∙ is in
      ap (λ (one : After State). then_lines one (lines ++ rest)) (line_came p name line (length lines) came kept)
      ∙ block_fed name (came ++ line ∷ []) lines rest (ap (drop 1) ends) whole

-- ---- a script

-- the laws of printed edits: their lines are read, their blocks are, and they are printed line by line
module _
    (read : (o : Edit) → IsEdit o → request (line_of o) ≡ Ok (asks o))
    (blocks : (name text : List ℕ) → IsEds name text → (length (lines_of text) ≡ line_count text)
    × (eds_edit name (lines_of text) ≡ Ok (edit.Eds name text)))
    (printed : (o : Edit) (rest : List ℕ) → IsEdit o
    → lines_of (text_of o ++ rest) ≡ (line_of o ∷ lines_of (block_of o)) ++ lines_of rest)
  where
    -- the lines of an edit that is taken are answered by `ok`
    edit_fed : (p q : Content) (o : Edit) (rest : List (List ℕ)) → IsEdit o → accept p o ≡ Ok q
        → after_lines (at p) ((line_of o ∷ lines_of (block_of o)) ++ rest) ≡ then_lines (with_reply q ok_reply) rest
    unfolding IsEdit lines_of
    edit_fed p q (edit.Eds name text) rest is taken =
        let block = blocks name text is in
        rw (line_fed p (edit.Eds name text) (read (edit.Eds name text) is), sym block.0)
        (block_fed p q (edit.Eds name text) taken name [] (lines_of text) rest (eds_lines name text block.1) block.1)
    edit_fed p q other rest is taken = rw (line_fed p other (read other is), taken) refl

    -- edits that are taken one after the other are each answered by `ok`
    edits_fed : (p q : Content) (os : List Edit) → All IsEdit os → accept_all (Ok p) os ≡ Ok q
        → after_lines (at p) (lines_of (flat_map text_of os))
        ≡ record { state = at q; replies = map (λ _. ok_reply) os }
    unfolding lines_of accept_all
    edits_fed p q [] are made = let same : p ≡ q = cc in rw same refl
    edits_fed p q (o ∷ os) are made = by (accept p o) refl made (λ r. edits_fed r q os (All-tail IsEdit o os are))
      where
        by : (r : Result Content EditFault) → accept p o ≡ r → accept_all r os ≡ Ok q
            → ((r : Content) → accept_all (Ok r) os ≡ Ok q
            → after_lines (at r) (lines_of (flat_map text_of os))
            ≡ record { state = at q; replies = map (λ _. ok_reply) os })
            → after_lines (at p) (lines_of (text_of o ++ flat_map text_of os))
            ≡ record { state = at q; replies = map (λ _. ok_reply) (o ∷ os) }
        by (Err fault) taken made others = cc
        by (Ok r) taken made others =
            let is = All-head IsEdit o os are in
            ap (after_lines (at p)) (printed o (flat_map text_of os) is)
            ∙ edit_fed p r o (lines_of (flat_map text_of os)) is taken
            ∙ ap (λ (more : After State). record { state = more.state; replies = ok_reply ∷ more.replies })
            (others r made)

    -- the laws of scripts: they have edits, and these make the project again
    module _ (have : (p : Content) → IsSound p → All IsEdit (edits p))
        (make : (p : Content) → IsSound p → accept_all (Ok first) (edits p) ≡ Ok p) where
      -- a script leads to its project, and each edit is answered by `ok`
      script_fed : (p : Content) → IsSound p → after_lines start (lines_of (script p))
          ≡ record { state = at p; replies = map (λ _. ok_reply) (edits p) }
      unfolding script
      script_fed p sound = edits_fed first p (edits p) (have p sound) (make p sound)

      -- so it makes the equal project
      pub project_again : (p : Content) → IsSound p → (after_lines start (lines_of (script p))).state ≡ at p
      project_again p sound = ap (λ (all : After State). all.state) (script_fed p sound)

      -- and is answered by `ok` alone
      pub answered_by_ok : (p : Content) → IsSound p → replies (script p) ≡ map (λ _. ok_reply) (edits p)
      unfolding replies
      answered_by_ok p sound =
          ap (λ (all : After State). all.replies ++ cut_off all.state.block) (script_fed p sound)
          ∙ append-nil (map (λ _. ok_reply) (edits p))
