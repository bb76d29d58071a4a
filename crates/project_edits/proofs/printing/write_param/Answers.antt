use Rattle.std.proofs.Common.{◌≡◌, ◌+◌, ◌++◌, ℕ, List, ap, sym, ◌∙◌, append_assoc, arith, length, length-append, refl, rules, take, take-take}
use Rattle.std.proofs.lemmas.List.{take-append-le, take_all}
use Rattle.std.specs.Io.{StartsWith}
use Rattle.project_edits.proofs.printing.write_param.Goals as goal

-- what begins with a longer text begins with its beginning
begins_before : (out mid old more : List ℕ) → StartsWith out mid → mid ≡ old ++ more → StartsWith out old
begins_before out mid old more begun longer =
    let long : length mid ≡ length old + length more = ap length longer ∙ length-append old more in
    sym (take-take (length old) (length mid) out (omega arith))
    ∙ ap (take (length old)) (begun ∙ longer)
    ∙ take-append-le (length old) old more (omega arith)
    ∙ take_all (length old) old (omega arith)

-- also where three texts follow it
begins_three : (out mid old a b c : List ℕ) → StartsWith out mid → mid ≡ old ++ a ++ b ++ c → StartsWith out old
begins_three out mid old a b c begun longer =
    let joined : old ++ a ++ b ++ c ≡ old ++ (a ++ (b ++ c)) = simp (append_assoc) refl in
    begins_before out mid old (a ++ (b ++ c)) begun (longer ∙ joined)

pub returns-in_err-write_word-clause-kept : goal.returns-in_err-write_word-clause-kept
returns-in_err-write_word-clause-kept c =
    let target = begins_three c.write_word.new.out.items c.write_target.new.out.items c.extend_from_slice.new.self.items _ _ _ c.in_err-write_word.ensures.kept c.in_ok-write_target.ensures.written in
    let kept = begins_before c.write_word.new.out.items c.extend_from_slice.new.self.items c.args.out.now.items _ target c.in_ok-extend_from_slice.ensures.items in
    search (rules, kept)
