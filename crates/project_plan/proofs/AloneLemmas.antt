-- In the plan of a sound project each PDO is had once.
use Rattle.std.proofs.Common.{◌≡◌, ◌∙◌, ℕ, zero, suc, List, [], ◌∷◌, All, Contains, Some, sym, ap, arith}
use Rattle.std.specs.FinMap.{entries}
use Rattle.std.specs.List.{slice_get}
use Rattle.std.proofs.lemmas.Cmp.{nat_list_cmp_total}
use Rattle.std.proofs.lemmas.List.Elements.{All-contains}
use Rattle.std.proofs.lemmas.Map.Lookups.{exact_bytes}
use Rattle.std.proofs.lemmas.Option.{same_Some}
use Rattle.base.proofs.EachLemmas.{all_entries, each_weaker}
use Rattle.project_messages.specs.declared.linked.Linked.{Linked}
use Rattle.project_messages.specs.Messages.{IsLinked}
use Rattle.co_project.specs.Project.{Content, controller_of}
use Rattle.co_project.specs.Sound.{IsMessageOf, IsSound}
use Rattle.pdo_stations.specs.Devices.{Devices, devices_of}
use Rattle.pdo_choices.specs.declared.clean.Clean.{Clean}
use Rattle.pdo_choices.specs.declared.consumer.Consumer.{Consumer}
use Rattle.pdo_plan.specs.Plan.{clean}
use Rattle.pdo_choices.specs.Had.{had_by}
use Rattle.pdo_choices.specs.Limits.{IsNumbered, IsWithin}
use Rattle.pdo_plan.proofs.ChainLemmas.{all_clean, each_within}
use Rattle.pdo_plan.proofs.FreeLemmas.{apart_at, rpdos_apart, tpdos_apart}
use Rattle.pdo_plan.proofs.JudgedLemmas.{clean_within}
use Rattle.pdo_links.specs.Order.{IsSentAlone, IsTakenAlone}
use Rattle.project_edits.specs.Versions.{is_three}
use Rattle.project_plan.specs.Network.{sheets_of_members, plan_of_project}

-- ---- places in lists

module _ {X : Type 0} where
  stands : (xs : List X) (x : X) → (has : Contains xs x) → slice_get xs has.0 ≡ Some x
  stands [] x (k, below, is) = absurd (omega arith)
  stands (y ∷ xs) x (zero, below, is) = ap Some is
  stands (y ∷ xs) x (suc k, below, is) = stands xs x (k, omega arith, is)

  one_there : (xs : List X) (x y : X) (has : Contains xs x) (too : Contains xs y) → has.0 ≡ too.0 → x ≡ y
  one_there xs x y has too same = same_Some x y (sym (stands xs x has) ∙ ap (slice_get xs) same ∙ stands xs y too)

module _ (p : Content) (sound : IsSound p) where
  -- the messages of a sound project are within their limits
  pub all_linked : All (λ (e : List ℕ × Linked). IsLinked e.1) (entries p.messages)
  unfolding IsMessageOf
  all_linked =
      all_entries nat_list_cmp_total exact_bytes (λ name linked. IsLinked linked) p.messages
      (each_weaker (IsMessageOf p)
      (λ name linked. IsLinked linked) p.messages (λ name linked there is. is.1) sound.messages)

  abbrev cs : List Clean
  cs = clean (plan_of_project p)

  abbrev devices : Devices
  devices = devices_of (is_three p.version) (controller_of p) (sheets_of_members p)

  -- and so are the clean ones
  pub all_within : All IsWithin (clean (plan_of_project p))
  unfolding plan_of_project
  all_within = all_clean IsWithin cs (each_within devices (λ before c. IsWithin c)
      (λ withheld before m c kept e. clean_within (had_by withheld before) devices m c kept e) (entries p.messages) all_linked)

  pub within : (c : Clean) → Contains (clean (plan_of_project p)) c → IsWithin c
  within c has = All-contains IsWithin cs c all_within has

  module _ (id : ℕ) (c : Clean) (has : Contains (clean (plan_of_project p)) c) where
    -- a message that a node sends, it sends alone by its TPDO
    pub sent_alone : c.message.node ≡ id → IsSentAlone (clean (plan_of_project p)) id c
    unfolding plan_of_project
    sent_alone sender = record {
      there = has;
      sender = sender;
      numbered = (within c has).sent.0;
      alone = λ d too node tpdo.
          one_there cs d c too has (tpdos_apart devices (entries p.messages) too.0 has.0 d c (stands cs d too)
          (stands cs c has) (node ∙ sym sender) tpdo);
    }

    -- one that it takes, it takes once, and alone by its RPDO
    pub taken_alone : (k : Consumer) → Contains c.consumers k → k.node ≡ id
        → IsTakenAlone (clean (plan_of_project p)) id c k
    unfolding plan_of_project
    taken_alone k among taker = record {
      there = has;
      consumer = among;
      taker = taker;
      numbered =
          (All-contains (λ (k : Consumer). IsNumbered k.rpdo k.mapping) c.consumers k (within c has).taken among).0;
      once = λ j too node.
          one_there c.consumers j k too among ((apart_at devices (entries p.messages) has.0 c (stands cs c has)).once
          too.0 among.0 j k (stands c.consumers j too) (stands c.consumers k among) (node ∙ sym taker));
      alone = λ d j there too node rpdo.
          one_there cs d c there has (rpdos_apart devices (entries p.messages) there.0 has.0 too.0 among.0 d c j k
          (stands cs d there) (stands cs c has) (stands d.consumers j too) (stands c.consumers k among)
          (node ∙ sym taker) rpdo).0;
    }
