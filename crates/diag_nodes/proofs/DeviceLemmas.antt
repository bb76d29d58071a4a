-- The devices of a project's nodes, all of them read.
use Rattle.std.proofs.Common.{◌≡◌, ℕ, List, [], ◌∷◌, ◌++◌, Some, sym, ap, subst, append_assoc, append-nil, ◌∙◌}
use Rattle.std.specs.FinMap.{entries}
use Rattle.std.specs.List.{All}
use Rattle.std.proofs.lemmas.Cmp.{nat_cmp_total}
use Rattle.std.proofs.lemmas.List.Elements.{All-append, All-cons, All-contains, All-nil, All-weaker}
use Rattle.std.proofs.lemmas.Map.Lookups.{exact_unsigned}
use Rattle.co_project.specs.declared.node.Node.{Node}
use Rattle.co_project.specs.Tables.{node_at}
use Rattle.project_plan.specs.Library.{IsRead, Read, with_device}
use Rattle.project_plan.proofs.LibraryLemmas.{read_still}
use Rattle.diag_nodes.specs.Devices.{AreAllRead}
use Rattle.diag_nodes.proofs.MemberLemmas.{entry_of}

-- those of the first nodes were read
abbrev pub AreReadFirst : Read → List (ℕ × Node) → List (ℕ × Node) → Type 0
AreReadFirst read rest nodes = (first : List (ℕ × Node)) × (first ++ rest ≡ nodes) × All (λ e. IsRead read e.1.eds) first

-- and of one more
pub one_more : (old new : Read) (e : ℕ × Node) (name : List ℕ) (rest left nodes : List (ℕ × Node))
    → left ≡ e ∷ rest → name ≡ e.1.eds → new ≡ with_device old name → IsRead new name
    → AreReadFirst old left nodes → AreReadFirst new rest nodes
one_more old new e name rest left nodes is same more read (first, whole, all) = (
  first ++ e ∷ [],
  append_assoc first (e ∷ []) rest ∙ ap (λ (es : List (ℕ × Node)). first ++ es) (sym is) ∙ whole,
  All-append (λ e. IsRead new e.1.eds) first (e ∷ [])
      (All-weaker (λ e. IsRead old e.1.eds) (λ e. IsRead new e.1.eds)
      (λ o was. subst (λ (r : Read). IsRead r o.1.eds) (sym more) (read_still old name o.1.eds was)) first all)
      (All-cons (λ e. IsRead new e.1.eds) e [] (subst (λ (n : List ℕ). IsRead new n) same read)
      (All-nil (λ e. IsRead new e.1.eds))),
)

-- where none is left, all were
pub all_read : (read : Read) (rest nodes : List (ℕ × Node)) → rest ≡ [] → nodes ≡ entries read.project.nodes
    → AreReadFirst read rest nodes → AreAllRead read
unfolding AreAllRead
all_read read rest nodes ended are (first, whole, all) =
    let same : first ≡ entries read.project.nodes = sym (append-nil first)
    ∙ ap (λ (es : List (ℕ × Node)). first ++ es) (sym ended) ∙ whole ∙ are in
    subst (λ (es : List (ℕ × Node)). All (λ e. IsRead read e.1.eds) es) same all

-- that of one of the nodes
pub read_of : (read : Read) (id : ℕ) (node : Node) → AreAllRead read → node_at read.project.nodes id ≡ Some node
    → IsRead read node.eds
unfolding AreAllRead
read_of read id node all there =
    All-contains (λ e. IsRead read e.1.eds) (entries read.project.nodes) (id, node) all
    (entry_of nat_cmp_total exact_unsigned read.project.nodes id node there)
