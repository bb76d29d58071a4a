use Rattle.std.proofs.Common.{◌≡◌, ℕ, Bool, List, None, Some, option_map, ap, sym, subst, ◌∙◌, Option}
use Rattle.project_edits.specs.Versions.{is_three}
use Rattle.co_project.specs.Project.{Content as Project}
use Rattle.co_project.specs.Tables.{text_at}
use Rattle.part_shelves.specs.SheetText.{sheet_given, sheet_text, SheetText}
use Rattle.part_shelves.specs.Slots.{fresh_slot, Slots}
use Rattle.part_shelves.proofs.SlotLemmas.{cleared_stands, fresh_stands, gone_stands, put_stands, StandsAt}
use Rattle.part_shelves.proofs.device_shelf.DeviceShelf.bring.Goals as goal

-- where the device is to be read from this
at_given : (slots new : Slots) (name : List ℕ) (now given : Option SheetText) → now ≡ given
    → StandsAt slots name new (option_map fresh_slot given) → StandsAt slots name new (option_map fresh_slot now)
at_given slots new name now given is stands =
    subst (λ (g : Option SheetText). StandsAt slots name new (option_map fresh_slot g)) (sym is) stands

-- it is to be read from this text, by the rules of this version
given_so : (p : Project) (name text : List ℕ) (is : Bool) → Some text ≡ text_at p.texts name → is ≡ is_three p.version
    → sheet_given p name ≡ Some (sheet_text is text)
given_so p name text is there same =
    ap (option_map (sheet_text (is_three p.version))) (sym there) ∙ ap (λ (b : Bool). Some (sheet_text b text)) (sym same)

pub returns-then-is_fresh-clause-ok : goal.returns-then-is_fresh-clause-ok
returns-then-is_fresh-clause-ok c =
    let unmarked = sym c.is_fresh.ensures ∙ c.if-is_fresh.true in
    fresh_stands c.args.self.now c.args.name.now (sheet_given c.args.project.now c.args.name.now) unmarked
    (c.requires unmarked)

pub returns-in_default-clause-ok : goal.returns-in_default-clause-ok
returns-in_default-clause-ok c =
    at_given c.args.self.now c.remove.new.self c.args.name.now (sheet_given c.args.project.now c.args.name.now) None
    (ap (option_map (sheet_text (is_three c.args.project.now.version))) (sym c.in_default.ensures.text))
    (subst (λ (s : Slots). StandsAt c.args.self.now c.args.name.now s None) (sym c.remove.ensures)
    (gone_stands c.args.self.now c.args.name.now))

pub returns-then-has_text-clause-ok : goal.returns-then-has_text-clause-ok
returns-then-has_text-clause-ok c =
    let given = sheet_text c.is_three-is_three.result c.in-Some.text.now in
    at_given c.args.self.now c.set_fresh.new.self c.args.name.now (sheet_given c.args.project.now c.args.name.now)
    (Some given)
    (given_so c.args.project.now c.args.name.now c.in-Some.text.now c.is_three-is_three.result c.in-Some.ensures.text
    (c.is_three-is_three.ensures ∙ ap is_three c.version.ensures))
    (subst (λ (s : Slots). StandsAt c.args.self.now c.args.name.now s (Some (fresh_slot given)))
    (sym c.set_fresh.ensures)
    (cleared_stands c.args.self.now c.args.name.now given (c.has_text.ensures.0 c.if-has_text.true)))

pub returns-clause-ok : goal.returns-clause-ok
returns-clause-ok c =
    let given = sheet_text c.is_three-is_three.result c.in-Some.text.now in
    at_given c.args.self.now c.read.new.self c.args.name.now (sheet_given c.args.project.now c.args.name.now) (Some given)
    (given_so c.args.project.now c.args.name.now c.in-Some.text.now c.is_three-is_three.result c.in-Some.ensures.text
    (c.is_three-is_three.ensures ∙ ap is_three c.version.ensures))
    (subst (λ (s : Slots). StandsAt c.args.self.now c.args.name.now s (Some (fresh_slot given)))
    (sym c.in_ok-read.ensures.ok) (put_stands c.args.self.now c.args.name.now (fresh_slot given)))
