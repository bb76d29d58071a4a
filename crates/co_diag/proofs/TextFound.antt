-- The lines of texts that aren't used are found.
use Rattle.std.proofs.Common.{ℕ, List, Contains, subst}
use Rattle.std.specs.FinMap.{entries}
use Rattle.std.specs.List.{flat_map}
use Rattle.std.proofs.lemmas.Cmp.{nat_list_cmp_total}
use Rattle.std.proofs.lemmas.Map.Lookups.{exact_bytes}
use Rattle.ini_text.specs.Content.{content_of}
use Rattle.co_project.specs.Project.{Content}
use Rattle.diag_lines.specs.declared.code.Code.TheVariants.{SkippedLine}
use Rattle.diag_lines.specs.declared.diag.Diag.{Diag}
use Rattle.diag_lines.specs.declared.subject.Subject.TheVariants as of
use Rattle.co_diag.specs.Holds.{SkipsLine, HoldsOf, Holds}
use Rattle.diag_nodes.specs.Found.{diagnostic}
use Rattle.co_diag.specs.Found.{skipped_lines}
use Rattle.co_diag.proofs.ListLemmas.{Contains-map, from_map, Contains-flat_map, from_flat_map}
use Rattle.diag_nodes.proofs.MemberLemmas.{at_entry, entry_of}

pub lines_hold : (p : Content) (d : Diag) → Contains (flat_map skipped_lines (entries p.texts)) d → Holds p d
unfolding skipped_lines Holds
lines_hold p d c =
    let at = from_flat_map skipped_lines (entries p.texts) d c in
    let one = from_map (λ line. diagnostic SkippedLine (of.Eds at.0.0 line)) (content_of at.0.1).warnings d at.2 in
    let holds : SkipsLine p at.0.0 one.0 = record {
      text = at.0.1;
      there = at_entry nat_list_cmp_total exact_bytes p.texts at.0 at.1;
      warned = one.1;
    } in
    subst (λ (x : Diag). HoldsOf p x.code x.subject) one.2 holds

pub lines_listed : (p : Content) (name : List ℕ) (line : ℕ) → SkipsLine p name line
    → Contains (flat_map skipped_lines (entries p.texts)) (diagnostic SkippedLine (of.Eds name line))
unfolding skipped_lines
lines_listed p name line h =
    Contains-flat_map skipped_lines (entries p.texts) (name, h.text) (diagnostic SkippedLine (of.Eds name line))
    (entry_of nat_list_cmp_total exact_bytes p.texts name h.text h.there)
    (Contains-map (λ line. diagnostic SkippedLine (of.Eds name line)) (content_of h.text).warnings line h.warned)
