-- What follows for a project that keeps to what every project does.
use Rattle.std.proofs.Common.{◌≡◌, ℕ, sym, subst, List, true, Option, Some, None, Ok, Bor, IfSome, option_copied}
use Rattle.std.specs.FinMap.{contains_key, get}
use Rattle.ini_text.specs.Content.{content_of}
use Rattle.eds_device.specs.Faults.{device_of}
use Rattle.project_edits.specs.Eds.{IsEds}
use Rattle.co_project.specs.Project.{Content}
use Rattle.co_project.specs.Sound.{AreTexts, IsNodeOf, IsSound}
use Rattle.base.proofs.EachLemmas.{each_weaker}

-- each text of a project is that of a device
pub texts_are_devices : (p : Content) (name : List ℕ) → IsSound p
    → IfSome (get p.texts name) (λ text. device_of text ≡ Ok (content_of text))
unfolding AreTexts
texts_are_devices p name sound =
    each_weaker IsEds (λ _ text. device_of text
    ≡ Ok (content_of text)) p.texts (λ name text there is. is.device) sound.texts.1 name

-- the EDS of each node of a project is there
pub nodes_have_texts : (p : Content) (id : ℕ) → IsSound p
    → IfSome (get p.nodes id) (λ node. contains_key p.texts node.eds ≡ true)
unfolding IsNodeOf
nodes_have_texts p id sound = each_weaker (IsNodeOf p)
    (λ _ node. contains_key p.texts node.eds ≡ true) p.nodes (λ id node there is. is.5) sound.nodes id

-- what holds of what was found holds behind the reference to it
pub IfSome-copied : {X : Type 0} (P : X → Type 0) (result : Option (Bor X)) (found : Option X)
    → option_copied result ≡ found → IfSome found P → IfSome result (λ x. P x.now)
IfSome-copied P None found is h = tt
IfSome-copied P (Some x) found is h = subst (λ o. IfSome o P) (sym is) h
