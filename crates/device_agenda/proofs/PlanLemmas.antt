-- The agenda of devices and others.
use Rattle.std.proofs.Common.{◌≡◌, ℕ, ◌||◌, Bool, false, List, [], ◌∷◌, ◌++◌, Option, sym, ap, ◌∙◌}
use Rattle.std.specs.Prelude.{flat_map}
use Rattle.std.specs.List.{AllByRecursion}
use Rattle.std.proofs.lemmas.Grind.{flat_map-append}
use Rattle.co_device.specs.Device.{Device, moments}
use Rattle.base.specs.Moments.{earlier, earliest}
use Rattle.base.proofs.EarliestLemmas.{earliest_append}
use Rattle.device_pdos.proofs.LookLemmas.{all_both}
use Rattle.device_agenda.specs.Agenda.{IsAgendaOf, Sleeps}
use Rattle.device_agenda.specs.Groups.{includes}
use Rattle.device_agenda.specs.declared.agenda.Agenda.{Agenda}
use Rattle.device_agenda.specs.declared.groups.Groups.{Groups}
use Rattle.device_agenda.proofs.GroupLemmas.{neither}

module _ (old new : Groups) (more : (id : ℕ) → includes new id ≡ false → includes old id ≡ false) where
  sleeps_more : (d : Device) → Sleeps old d → Sleeps new d
  sleeps_more d sleeps = record {
    rests = sleeps.rests;
    unspent = sleeps.unspent;
    deaf = λ frame within out. sleeps.deaf frame within (more frame.id out);
  }

  all_sleep : (ds : List Device) → AllByRecursion (Sleeps old) ds → AllByRecursion (Sleeps new) ds
  all_sleep [] all = tt
  all_sleep (d ∷ ds) all = (sleeps_more d all.0, all_sleep ds all.1)

module _ (a b : Agenda) (awake : Bool) (due : Option ℕ) (groups : Groups) (waits : Bool)
    (awake_is : awake ≡ a.awake || b.awake) (due_is : due ≡ earlier a.due b.due)
    (groups_are : (id : ℕ) → includes groups id ≡ includes a.groups id || includes b.groups id)
    (waits_is : waits ≡ a.waits || b.waits) where
  first_out : (id : ℕ) → includes groups id ≡ false → includes a.groups id ≡ false
  first_out id out = (neither (includes a.groups id) (includes b.groups id) (sym (groups_are id) ∙ out)).0

  second_out : (id : ℕ) → includes groups id ≡ false → includes b.groups id ≡ false
  second_out id out = (neither (includes a.groups id) (includes b.groups id) (sym (groups_are id) ∙ out)).1

  pub of_both : (ds es : List Device) → IsAgendaOf a ds → IsAgendaOf b es
      → IsAgendaOf (record { awake = awake; due = due; groups = groups; waits = waits }) (ds ++ es)
  of_both ds es one other = record {
    due = λ e.
        let asleep = neither a.awake b.awake (sym awake_is ∙ e) in
        due_is ∙ ap (λ m. earlier m b.due) (one.due asleep.0) ∙ ap (earlier (earliest (flat_map moments ds)))
        (other.due asleep.1)
        ∙ sym (earliest_append (flat_map moments ds) (flat_map moments es))
        ∙ ap earliest (sym (flat_map-append moments ds es));
    asleep = λ e.
        let asleep = neither a.awake b.awake (sym awake_is ∙ e) in
        all_both (Sleeps groups) ds es (all_sleep a.groups groups first_out ds (one.asleep asleep.0))
        (all_sleep b.groups groups second_out es (other.asleep asleep.1));
    silent = λ e.
        let silent = neither a.waits b.waits (sym waits_is ∙ e) in
        all_both (λ (d : Device). d.waiting ≡ []) ds es (one.silent silent.0) (other.silent silent.1);
  }
