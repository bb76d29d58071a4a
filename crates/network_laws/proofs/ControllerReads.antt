-- In a run nothing is read to boot the node that the manager runs in.
use Rattle.std.proofs.Common.{◌≡◌, ℕ, Bool, true, false, All, inl, inr, sym, ap, ◌∙◌}
use Rattle.std.specs.Prelude.{◌==◌, Contains}
use Rattle.std.proofs.lemmas.Bool.{false≢true}
use Rattle.std.proofs.lemmas.List.Elements.{All-contains, All-weaker}
use Rattle.can_bus.specs.Bus.{Bus, instant}
use Rattle.can_bus.specs.Spans.{bus_at}
use Rattle.can_bus.specs.declared.slot.Slot.{Slot}
use Rattle.can_frame.specs.Frames.{BaseFrame}
use Rattle.co_device.specs.Device.{Device}
use Rattle.image_parts.specs.Asking.{reads}
use Rattle.image_parts.specs.Contents.{Content, Image, roster_of}
use Rattle.image_parts.specs.Images.{IsImage}
use Rattle.image_parts.specs.declared.part.Part.{Part}
use Rattle.image_parts.specs.declared.part.Part.TheVariants.{Boot, Defaults, Events, Expect, Roster, Shape}
use Rattle.manager_nodes.specs.Table.{is_own}
use Rattle.manager_nodes.specs.declared.booting.Booting.{Booting}
use Rattle.network_laws.proofs.AskLemmas.{instant_reads}
use Rattle.network_laws.proofs.OwnLemmas.{command_owns}
use Rattle.network_laws.proofs.RunLemmas.{run_is_good}
use Rattle.network_laws.proofs.ThroughLemmas.{run_manager}
use Rattle.network_laws.proofs.WaitingLemmas.{number_itself}
use Rattle.network_laws.specs.Reads.{AsksForWrite, AsksForWriteNow, BeginsBoot, IsNoPartOfBoot, IsOwnPart, IsReadAt}
use Rattle.network_laws.specs.Reads.{IsReadAtDelivery, IsReadByDevice, IsReadByManager, IsReadToBoot, at_delivery}
use Rattle.network_laws.specs.Requests.{HasManagerFrames}
use Rattle.nmt_boot.specs.Manager.{Manager}
use Rattle.node_boot.specs.declared.boot_stage.BootStage.{BootStage}
use Rattle.node_boot.specs.declared.boot_stage.BootStage.TheVariants.{Unseen, Comparing, Writing, Configured, Failed, Own}

-- ---- parts by their kinds

abbrev is_of_boot : Part → Bool
is_of_boot Roster = false
is_of_boot (Defaults node) = false
is_of_boot (Shape node) = false
is_of_boot (Expect node) = true
is_of_boot (Boot node place) = true
is_of_boot (Events window) = false

abbrev is_expected : Part → Bool
is_expected Roster = false
is_expected (Defaults node) = false
is_expected (Shape node) = false
is_expected (Expect node) = true
is_expected (Boot node place) = false
is_expected (Events window) = false

-- the node of such a part
abbrev booted_node : Part → ℕ
booted_node Roster = 0
booted_node (Defaults node) = 0
booted_node (Shape node) = 0
booted_node (Expect node) = node
booted_node (Boot node place) = node
booted_node (Events window) = 0

-- the node of the number n is the manager's own
module _ (n : ℕ) where
  other_part : (part : Part) → is_of_boot part ≡ false → IsNoPartOfBoot n part
  other_part part e = (
    λ same. false≢true (sym e ∙ ap is_of_boot same),
    λ j same. false≢true (sym e ∙ ap is_of_boot same),
  )

  own_part : (node : ℕ) (part : Part) → IsOwnPart node part → IsNoPartOfBoot n part
  own_part node part (inl is) = other_part part (ap is_of_boot is)
  own_part node part (inr is) = other_part part (ap is_of_boot is)

  by_device : (frame : BaseFrame) (d : Device) (part : Part) → IsReadByDevice frame d part → IsNoPartOfBoot n part
  by_device frame d part (inl reset) = own_part d.number part reset.0
  by_device frame d part (inr uses) = own_part d.number part (inr uses.0)

  -- ---- the manager begins no boot of its own node, and asks for no write of it

  no_write : (node : ℕ) (slot : Slot) (stage : BootStage) (j : ℕ) → is_own stage ≡ true → AsksForWrite node slot stage j
      → ⊥
  no_write node slot Unseen j own asks = asks
  no_write node slot (Comparing place expected transfer deadline) j own asks = false≢true own
  no_write node slot (Writing place transfer deadline) j own asks = false≢true own
  no_write node slot Configured j own asks = asks
  no_write node slot Failed j own asks = asks
  no_write node slot Own j own asks = asks

  no_boot : (slot : Slot) (booting : Booting) → is_own booting.stage ≡ true → BeginsBoot slot booting → ⊥
  no_boot slot booting own begins = false≢true (sym begins.0 ∙ own)

  not_asked : (image : Image) (slot : Slot) (booting : Booting) (j : ℕ) → is_own booting.stage ≡ true
      → AsksForWriteNow image slot booting j → ⊥
  not_asked image slot booting j own (inl asks) = no_write booting.number slot booting.stage j own asks
  not_asked image slot booting j own (inr now) = no_boot slot booting own now.1.0

  abbrev Knows : Manager → Type 0
  Knows m = (m.number ≡ n) × HasManagerFrames m

  itself : (m : Manager) → Knows m → (booting : Booting) → Contains m.nodes booting → booting.number ≡ n
      → is_own booting.stage ≡ true
  itself m k booting listed e =
      All-contains (λ (b : Booting). is_own b.stage ≡ (b.number == m.number)) m.nodes booting k.1.own listed
      ∙ ap (λ (x : ℕ). x == m.number) (e ∙ sym k.0)
      ∙ number_itself m.number

  to_boot : (image : Image) (slot : Slot) (booting : Booting) (part : Part)
      → (booting.number ≡ n → is_own booting.stage ≡ true) → IsReadToBoot image slot booting part
      → IsNoPartOfBoot n part
  to_boot image slot booting part own (inl expect) = (
    λ same. no_boot slot booting (own (ap booted_node (sym expect.0 ∙ same))) expect.1,
    λ j same. false≢true (sym (ap is_expected (sym expect.0 ∙ same))),
  )
  to_boot image slot booting part own (inr write) = (
    λ same. false≢true (ap is_expected (sym write.1.0 ∙ same)),
    λ j same. not_asked image slot booting write.0 (own (ap booted_node (sym write.1.0 ∙ same))) write.1.1,
  )

  by_manager : (image : Image) (slot : Slot) (m : Manager) → Knows m → (part : Part)
      → IsReadByManager image slot m part → IsNoPartOfBoot n part
  by_manager image slot m k part why =
      to_boot image slot why.0 part (λ e. itself m k why.0 why.1.0 e) why.1.1

  -- ---- an instant

  module _ (image : Image) (t : ℕ) (s : Bus) (knows : Knows s.manager) where
    abbrev Anything : Manager → Type 0
    Anything m = Unit {0}

    still_knows : Knows (at_delivery image t s).manager
    still_knows =
        run_manager image t s Knows Anything Anything (λ c node m k. (k.0, command_owns c node m k.1)) (λ m k. tt)
        (λ m k. tt) (λ m place k. tt) knows

    by_delivery : (slot : Slot) (part : Part) → IsReadAtDelivery image slot (at_delivery image t s) part
        → IsNoPartOfBoot n part
    by_delivery slot part (inl why) = by_device slot.frame why.0 part why.1.1.1.1
    by_delivery slot part (inr why) = by_manager image slot (at_delivery image t s).manager still_knows part why.1

    no_part_of_boot : (part : Part) → IsReadAt image t s part → IsNoPartOfBoot n part
    no_part_of_boot part (inl window) = other_part part (ap is_of_boot window.1)
    no_part_of_boot part (inr (inl event)) = own_part event.0 part event.1.1.0
    no_part_of_boot part (inr (inr heard)) = by_delivery heard.0 part heard.1.1

-- ---- the run

pub controller_not_booted : (image : Image) → IsImage image → (t : ℕ)
    → All (λ (r : Part × Content). IsNoPartOfBoot (roster_of (image Roster)).manager r.0)
    (reads (instant t (bus_at image t)) image)
controller_not_booted image is t =
    let s : Bus = bus_at image t in
    let n : ℕ = (roster_of (image Roster)).manager in
    let good = run_is_good image is t in
    All-weaker (λ (r : Part × Content). IsReadAt image t s r.0) (λ (r : Part × Content). IsNoPartOfBoot n r.0)
    (λ r why. no_part_of_boot n image t s (good.sound.manager, good.sound.manager_frames) r.0 why)
    (reads (instant t s) image) (instant_reads image t s)
