-- What the start of a slot makes of the exchange.
use Rattle.std.proofs.Common.{◌≡◌, ◌≢◌, ℕ, ◌<◌, ◌≤◌, Bool, true, false, List, [], ◌∷◌, ◌++◌, Some, None}
use Rattle.std.proofs.Common.{◌⊎◌, inl, inr, refl, sym, ap, ◌∙◌, subst, arith, get_or, length}
use Rattle.std.specs.Prelude.{◌||◌, ◌==◌, remove}
use Rattle.std.proofs.lemmas.Bool.{false≢true}
use Rattle.std.proofs.lemmas.Bool.Decides.{nat_tests}
use Rattle.std.proofs.lemmas.List.{append-nil}
use Rattle.network_laws.specs.Requests.{AreOthers, IsManagersFrame, requests_to}
use Rattle.can_frame.specs.ErrorControl.{IsBootUp}
use Rattle.cia301.specs.Limits.{IsNodeNumber}
use Rattle.network_laws.specs.Boots.{IsBootUpOf}
use Rattle.can_bus.specs.declared.slot.Slot.{Slot}
use Rattle.can_frame.specs.Frames.{BaseFrame}
use Rattle.can_frame.specs.Identifiers.{emergency_id, error_control_id, nmt_id, sdo_answer_id, sdo_request_id, sync_id}
use Rattle.can_frame.specs.Identifiers.{time_id}
use Rattle.can_frame.specs.WaitingFrames.{is_same, is_unwanted, waits_for}
use Rattle.can_frame.specs.declared.purpose.Purpose.{Purpose}
use Rattle.can_frame.specs.declared.purpose.Purpose.TheVariants.{BootUp, Emergency, Heartbeat, Nmt, Sdo, Sync, Time, Tpdo}
use Rattle.can_frame.specs.declared.unwanted.Unwanted.TheVariants.{SdoOf, Sdos}
use Rattle.can_frame.specs.declared.waiting.Waiting.{Waiting}
use Rattle.base.specs.Ranges.{is_between}
use Rattle.co_device.specs.Device.{Device}
use Rattle.cia301.specs.CobIds.{is_restricted}
use Rattle.image_parts.specs.Contents.{Image}
use Rattle.network_laws.specs.Own.{IsOwnFrame}
use Rattle.network_laws.specs.Leaves.{answers_of}
use Rattle.network_laws.specs.Exchanges.{Anything, Asks, Exchanges, IsBooting, IsExchanging, IsTraffic, Silence}
use Rattle.network_laws.specs.Exchanges.{Tells, Traffic, answers_under_way, bytes_of, on_wire, requests_under_way}
use Rattle.network_laws.proofs.DeviceLemmas.{AsStage, here_on_wire, not_on_wire}
use Rattle.network_laws.proofs.ListLemmas.{any_left, both_empty, none_has_bytes, none_passes}
use Rattle.network_laws.proofs.ListLemmas.{one_has_bytes, one_left, others_left}
use Rattle.node_boot.specs.declared.boot_stage.BootStage.{BootStage}
use Rattle.network_laws.proofs.WaitingLemmas.{number_itself}
use Rattle.std.proofs.lemmas.Bool.{cases_eq}

-- ---- identifiers that no PDO has

between : (low high id : ℕ) → low ≤ id → id ≤ high → is_between low high id ≡ true
between low high id a b = grind (arith, nat_tests)

third : (a b c d e f : Bool) → c ≡ true → (a || b || c || d || e || f) ≡ true
third true b c d e f h = refl
third false true c d e f h = refl
third false false true d e f h = refl
third false false false d e f h = absurd cc

fourth : (a b c d e f : Bool) → d ≡ true → (a || b || c || d || e || f) ≡ true
fourth true b c d e f h = refl
fourth false true c d e f h = refl
fourth false false true d e f h = refl
fourth false false false true e f h = refl
fourth false false false false e f h = absurd cc

sixth : (a b c d e f : Bool) → f ≡ true → (a || b || c || d || e || f) ≡ true
sixth true b c d e f h = refl
sixth false true c d e f h = refl
sixth false false true d e f h = refl
sixth false false false true e f h = refl
sixth false false false false true f h = refl
sixth false false false false false true h = refl
sixth false false false false false false h = absurd cc

module _ (node : ℕ) (is : IsNodeNumber node) where
  answer_restricted : is_restricted (sdo_answer_id node) ≡ true
  unfolding is_restricted
  answer_restricted =
      let low = is.0 in
      let high = is.1 in
      third (is_between 0x000 0x07F (sdo_answer_id node)) (is_between 0x101 0x180 (sdo_answer_id node)) (is_between 0x581 0x5FF (sdo_answer_id node)) (is_between 0x601 0x67F (sdo_answer_id node)) (is_between 0x6E0 0x6FF (sdo_answer_id node)) (is_between 0x701 0x7FF (sdo_answer_id node))
      (between 0x581 0x5FF (sdo_answer_id node) (omega (arith, low)) (omega (arith, high)))

  request_restricted : is_restricted (sdo_request_id node) ≡ true
  unfolding is_restricted
  request_restricted =
      let low = is.0 in
      let high = is.1 in
      fourth (is_between 0x000 0x07F (sdo_request_id node)) (is_between 0x101 0x180 (sdo_request_id node)) (is_between 0x581 0x5FF (sdo_request_id node)) (is_between 0x601 0x67F (sdo_request_id node)) (is_between 0x6E0 0x6FF (sdo_request_id node)) (is_between 0x701 0x7FF (sdo_request_id node))
      (between 0x601 0x67F (sdo_request_id node) (omega (arith, low)) (omega (arith, high)))

  control_restricted : is_restricted (error_control_id node) ≡ true
  unfolding is_restricted
  control_restricted =
      let low = is.0 in
      let high = is.1 in
      sixth (is_between 0x000 0x07F (error_control_id node)) (is_between 0x101 0x180 (error_control_id node)) (is_between 0x581 0x5FF (error_control_id node)) (is_between 0x601 0x67F (error_control_id node)) (is_between 0x6E0 0x6FF (error_control_id node)) (is_between 0x701 0x7FF (error_control_id node))
      (between 0x701 0x7FF (error_control_id node) (omega (arith, low)) (omega (arith, high)))

  -- the frame is none of the exchange of the node with the manager
  pub record IsForeign (frame : BaseFrame) : Type 0 where
    pub no_request : frame.id ≢ sdo_request_id node
    pub no_answer : frame.id ≢ sdo_answer_id node
    pub no_boot_up : IsBootUp node frame → ⊥

  free : (frame : BaseFrame) → is_restricted frame.id ≡ false → (id : ℕ) → is_restricted id ≡ true → frame.id ≢ id
  free frame no_one id yes_one e = false≢true (sym no_one ∙ ap is_restricted e ∙ yes_one)

  pub pdo_foreign : (frame : BaseFrame) → is_restricted frame.id ≡ false → IsForeign frame
  pdo_foreign frame h = record {
    no_request = free frame h (sdo_request_id node) request_restricted;
    no_answer = free frame h (sdo_answer_id node) answer_restricted;
    no_boot_up = λ b. free frame h (error_control_id node) control_restricted b.0;
  }

  -- an identifier below 200h, or that of another node
  low_foreign : (frame : BaseFrame) (id : ℕ) → frame.id ≡ id → id < 0x200 → IsForeign frame
  low_foreign frame id e h = record {
    no_request = λ f. none (e, f);
    no_answer = λ f. other (e, f);
    no_boot_up = λ b. third_one b.0;
  }
    where
      none : (frame.id ≡ id) × (frame.id ≡ sdo_request_id node) → ⊥
      none p = let a = p.0 in let b = p.1 in omega (arith, a, b, h)

      other : (frame.id ≡ id) × (frame.id ≡ sdo_answer_id node) → ⊥
      other p = let a = p.0 in let b = p.1 in omega (arith, a, b, h)

      third_one : frame.id ≡ error_control_id node → ⊥
      third_one b = omega (arith, e, b, h)

  module _ (k : ℕ) (of_k : IsNodeNumber k) where
    -- a frame of another node, or of the node itself for another purpose
    pub control_foreign : (frame : BaseFrame) → frame.id ≡ error_control_id k → (IsBootUp node frame → ⊥)
        → IsForeign frame
    control_foreign frame e h =
        let low = of_k.0 in
        let high = of_k.1 in
        let mine = is.1 in
        record {
          no_request = λ f. omega (arith, e, f, low, high, mine);
          no_answer = λ f. omega (arith, e, f, low, high, mine);
          no_boot_up = h;
        }

    answer_foreign : (frame : BaseFrame) → frame.id ≡ sdo_answer_id k → k ≢ node → IsForeign frame
    answer_foreign frame e apart =
        let low = of_k.0 in
        let high = of_k.1 in
        let mine = is.1 in
        record {
          no_request = λ f. omega (arith, e, f, low, high, mine);
          no_answer = λ f. apart (same e f);
          no_boot_up = λ b. control e b.0;
        }
      where
        same : frame.id ≡ sdo_answer_id k → frame.id ≡ sdo_answer_id node → k ≡ node
        same a b = omega (arith, a, b)

        control : frame.id ≡ sdo_answer_id k → frame.id ≡ error_control_id node → ⊥
        control a b = let top = of_k.1 in omega (arith, a, b, top)

    request_foreign : (frame : BaseFrame) → frame.id ≡ sdo_request_id k → k ≢ node → IsForeign frame
    request_foreign frame e apart = record {
      no_request = λ f. apart (same e f);
      no_answer = λ f. answer e f;
      no_boot_up = λ b. control e b.0;
    }
      where
        same : frame.id ≡ sdo_request_id k → frame.id ≡ sdo_request_id node → k ≡ node
        same a b = omega (arith, a, b)

        answer : frame.id ≡ sdo_request_id k → frame.id ≡ sdo_answer_id node → ⊥
        answer a b = let top = is.1 in omega (arith, a, b, top)

        control : frame.id ≡ sdo_request_id k → frame.id ≡ error_control_id node → ⊥
        control a b = let top = of_k.1 in omega (arith, a, b, top)

    pub emergency_foreign : (frame : BaseFrame) → frame.id ≡ emergency_id k → IsForeign frame
    emergency_foreign frame e = let high = of_k.1 in low_foreign frame (emergency_id k) e (omega (arith, high))

    of_another : (frame : BaseFrame) → frame.id ≡ error_control_id k → k ≢ node → IsBootUp node frame → ⊥
    of_another frame e apart b = apart (same e b.0)
      where
        same : frame.id ≡ error_control_id k → frame.id ≡ error_control_id node → k ≡ node
        same a c = omega (arith, a, c)

    -- each frame of another device, and of the manager but its requests to the node
    pub device_foreign : (p : Purpose) (frame : BaseFrame) → IsOwnFrame k p frame → k ≢ node → IsForeign frame
    device_foreign BootUp frame h apart =
        let e : frame.id ≡ error_control_id k = ap (λ (x : BaseFrame). x.id) h in
        control_foreign frame e (of_another frame e apart)
    device_foreign Heartbeat frame h apart = control_foreign frame h.0 (of_another frame h.0 apart)
    device_foreign (Tpdo j) frame h apart = pdo_foreign frame h
    device_foreign (Sdo j) frame h apart = answer_foreign frame h apart
    device_foreign Emergency frame h apart = emergency_foreign frame h
    device_foreign Sync frame h apart = absurd h
    device_foreign Time frame h apart = absurd h
    device_foreign Nmt frame h apart = absurd h

    pub manager_foreign : (nodes : List ℕ) → (AreOthers k nodes → node ≢ k) → (p : Purpose) (frame : BaseFrame)
        → IsManagersFrame k nodes p frame → is_unwanted (SdoOf node) p ≡ false → IsForeign frame
    manager_foreign nodes differs BootUp frame h other =
        control_foreign frame h.0.0 (of_another frame h.0.0 (λ e. differs h.1 (sym e)))
    manager_foreign nodes differs Heartbeat frame h other = control_foreign frame h.0 (λ b. h.1 b.1)
    manager_foreign nodes differs (Tpdo j) frame h other = absurd h
    manager_foreign nodes differs (Sdo j) frame h other = by (cases_eq node j)
      where
        by : (node ≡ j) ⊎ (node ≢ j) → IsForeign frame
        by (inl e) = absurd (false≢true (sym other ∙ ap (λ x. node == x) (sym e) ∙ number_itself node))
        by (inr e) = record {
          no_request = λ f. e (same h.1.1 f);
          no_answer = λ f. answer h.1.1 f;
          no_boot_up = λ b. control h.1.1 h.0 b.0;
        }
          where
            same : frame.id ≡ sdo_request_id j → frame.id ≡ sdo_request_id node → node ≡ j
            same a b = omega (arith, a, b)

            answer : frame.id ≡ sdo_request_id j → frame.id ≡ sdo_answer_id node → ⊥
            answer a b = let top = is.1 in omega (arith, a, b, top)

            control : frame.id ≡ sdo_request_id j → IsNodeNumber j → frame.id ≡ error_control_id node → ⊥
            control a n b = let top = n.1 in omega (arith, a, b, top)
    manager_foreign nodes differs Emergency frame h other = absurd h
    manager_foreign nodes differs Sync frame h other = low_foreign frame sync_id h (omega arith)
    manager_foreign nodes differs Time frame h other = low_foreign frame time_id h (omega arith)
    manager_foreign nodes differs Nmt frame h other = low_foreign frame nmt_id h (omega arith)

-- ---- a frame that is none of the exchange starts

module _ (image : Image) (node : ℕ) (is : IsNodeNumber node) where
  module _ (marks : ℕ × ℕ → Bool) (d : Device) (stage : BootStage) (slot : Slot) where
    abbrev Now : List Waiting → Type 0
    Now requests = Exchanges image node marks d stage requests (Some slot)

    foreign_wire : IsForeign node is slot.frame → (xs : List (List ℕ)) → (xs ++ [] ≡ xs ++ on_wire (sdo_request_id node) (Some slot))
        × (xs ++ [] ≡ xs ++ on_wire (sdo_answer_id node) (Some slot))
    foreign_wire f xs = (
      ap (λ (zs : List (List ℕ)). xs ++ zs) (sym (not_on_wire (sdo_request_id node) slot f.no_request)),
      ap (λ (zs : List (List ℕ)). xs ++ zs) (sym (not_on_wire (sdo_answer_id node) slot f.no_answer)),
    )

    pub foreign_starts : IsForeign node is slot.frame → (requests : List Waiting)
        → Exchanges image node marks d stage requests None → Now requests
    foreign_starts f requests h on up = by (h on up)
      where
        by : IsBooting node d None ⊎ IsExchanging image node marks d stage requests None
            → IsBooting node d (Some slot) ⊎ IsExchanging image node marks d stage requests (Some slot)
        by (inl b) = absurd b.boot_up
        by (inr x) = inr (record {
          no_boot_up = f.no_boot_up;
          traffic = x.traffic;
          is_traffic =
              subst (λ (zs : List (List ℕ)). IsTraffic zs (answers_under_way node d (Some slot)) x.traffic)
              (foreign_wire f (bytes_of requests)).0
              (subst (λ (zs : List (List ℕ)). IsTraffic (requests_under_way node requests None) zs x.traffic)
              (foreign_wire f (bytes_of (answers_of d.waiting))).1 x.is_traffic);
          is_as_stage = x.is_as_stage;
        })

    -- ---- a request of the manager to the node starts

    -- the one that waited is on the wire
    no_boot : slot.frame.id ≡ sdo_request_id node → IsBootUpOf node (Some slot) → ⊥
    no_boot e b = apart e b.0
      where
        apart : slot.frame.id ≡ sdo_request_id node → slot.frame.id ≡ error_control_id node → ⊥
        apart x y = omega (arith, x, y)

    no_answer_on : slot.frame.id ≡ sdo_request_id node → on_wire (sdo_answer_id node) (Some slot) ≡ []
    no_answer_on e = not_on_wire (sdo_answer_id node) slot (λ f. apart e f)
      where
        apart : slot.frame.id ≡ sdo_request_id node → slot.frame.id ≡ sdo_answer_id node → ⊥
        apart x y = let top = is.1 in omega (arith, x, y, top)

    module _ (ws : List Waiting) (place : ℕ) (none : Waiting) (within : place < length ws) where
      abbrev w : Waiting
      w = get_or ws place none

      abbrev passes : Waiting → Bool
      passes v = is_unwanted (SdoOf node) v.purpose

      module _ (to_node : passes w ≡ true) (id : slot.frame.id ≡ sdo_request_id node) (same : slot.frame ≡ w.frame) where
        on_its_way : (r : List ℕ) → bytes_of (requests_to node ws) ≡ r ∷ []
            → requests_under_way node (requests_to node (remove ws place)) (Some slot) ≡ r ∷ []
        unfolding requests_to
        on_its_way r e =
            let one = one_has_bytes (requests_to node ws) r e in
            let left = one_left passes none ws place one.0 within to_node one.1.0 in
            ap (λ (vs : List Waiting). bytes_of vs ++ on_wire (sdo_request_id node) (Some slot)) left.0
            ∙ here_on_wire (sdo_request_id node) slot id
            ∙ ap (λ (x : List ℕ). x ∷ [])
            (ap (λ (x : BaseFrame). x.bytes) same ∙ ap (λ (v : Waiting). v.frame.bytes) left.1 ∙ one.1.1)

        one_waits : requests_to node ws ≡ [] → ⊥
        unfolding requests_to
        one_waits e = false≢true (sym (none_passes passes none ws place within e) ∙ to_node)

        abbrev Sent : Type 0
        Sent = IsExchanging image node marks d stage (requests_to node (remove ws place)) (Some slot)

        silent_still : bytes_of (answers_of d.waiting) ++ [] ≡ [] → answers_under_way node d (Some slot) ≡ []
        silent_still e =
            ap (λ (zs : List (List ℕ)). zs ++ on_wire (sdo_answer_id node) (Some slot)) (both_empty _ [] e).0
            ∙ no_answer_on id

        by_traffic : (traffic : Traffic)
            → IsTraffic (requests_under_way node (requests_to node ws) None) (answers_under_way node d None) traffic
            → AsStage image node marks d.values d.transfer stage traffic → Sent
        by_traffic Silence i h = absurd (one_waits (none_has_bytes (requests_to node ws) (both_empty _ [] i.0).0))
        by_traffic (Asks r) i h = record {
          no_boot_up = no_boot id;
          traffic = Asks r;
          is_traffic = (on_its_way r (sym (append-nil (bytes_of (requests_to node ws))) ∙ i.0), silent_still i.1);
          is_as_stage = h;
        }
        by_traffic (Tells a) i h =
            absurd (one_waits (none_has_bytes (requests_to node ws) (both_empty _ [] i.0).0))
        by_traffic Anything i h = record {
          no_boot_up = no_boot id;
          traffic = Anything;
          is_traffic = tt;
          is_as_stage = h;
        }

        pub request_starts : Exchanges image node marks d stage (requests_to node ws) None
            → Now (requests_to node (remove ws place))
        request_starts h on up = by (h on up)
          where
            by : IsBooting node d None ⊎ IsExchanging image node marks d stage (requests_to node ws) None
                → IsBooting node d (Some slot) ⊎ Sent
            by (inl b) = absurd b.boot_up
            by (inr x) = inr (by_traffic x.traffic x.is_traffic x.is_as_stage)

      -- any other frame of the manager
      pub managers_starts : IsForeign node is slot.frame → passes w ≡ false
          → Exchanges image node marks d stage (requests_to node ws) None
          → Now (requests_to node (remove ws place))
      unfolding requests_to
      managers_starts f other h =
          subst Now (sym (others_left passes none ws place within other))
          (foreign_starts f (requests_to node ws) h)

  -- ---- a frame of the node itself starts

  module _ (marks : ℕ × ℕ → Bool) (d : Device) (stage : BootStage) (requests : List Waiting) (slot : Slot)
      (place : ℕ) (none : Waiting) (within : place < length d.waiting) where
    abbrev own : Waiting
    own = get_or d.waiting place none

    abbrev sent : Device
    sent = record d { waiting = remove d.waiting place }

    abbrev Starts : Type 0
    Starts = Exchanges image node marks sent stage requests (Some slot)

    abbrev answers : Waiting → Bool
    answers v = is_unwanted Sdos v.purpose

    still_waits : is_same own.purpose BootUp ≡ false → waits_for BootUp sent.waiting ≡ waits_for BootUp d.waiting
    still_waits e = any_left (λ v. is_same v.purpose BootUp) none d.waiting place within e

    answers_still : answers own ≡ false → answers_of sent.waiting ≡ answers_of d.waiting
    unfolding answers_of
    answers_still e = others_left answers none d.waiting place within e

    -- of no purpose that matters
    other_starts : IsForeign node is slot.frame → is_same own.purpose BootUp ≡ false → answers own ≡ false
        → Exchanges image node marks d stage requests None → Starts
    other_starts f no_boot_up no_answer h on up = by (foreign_starts marks d stage slot f requests h on
        (sym (still_waits no_boot_up) ∙ up))
      where
        by : IsBooting node d (Some slot) ⊎ IsExchanging image node marks d stage requests (Some slot)
            → IsBooting node sent (Some slot) ⊎ IsExchanging image node marks sent stage requests (Some slot)
        by (inl b) = absurd (f.no_boot_up b.boot_up)
        by (inr x) = inr (record {
          no_boot_up = x.no_boot_up;
          traffic = x.traffic;
          is_traffic = subst (λ (ws : List Waiting). IsTraffic (requests_under_way node requests (Some slot))
              (bytes_of ws ++ on_wire (sdo_answer_id node) (Some slot)) x.traffic)
              (sym (answers_still no_answer)) x.is_traffic;
          is_as_stage = x.is_as_stage;
        })

    -- its boot-up message, while no answer waits
    boot_up_starts : IsBootUpOf node (Some slot) → answers own ≡ false → answers_of d.waiting ≡ [] → Starts
    boot_up_starts b no_answer silent on up = inl (record {
      boot_up = b;
      silent = answers_still no_answer ∙ silent;
    })

    -- its answer
    module _ (id : slot.frame.id ≡ sdo_answer_id node) (no_boot_up : is_same own.purpose BootUp ≡ false)
        (an_answer : answers own ≡ true) (same : slot.frame ≡ own.frame) where
      told : (a : List ℕ) → bytes_of (answers_of d.waiting) ≡ a ∷ []
          → answers_under_way node sent (Some slot) ≡ a ∷ []
      unfolding answers_of
      told a e =
          let one = one_has_bytes (answers_of d.waiting) a e in
          let left = one_left answers none d.waiting place one.0 within an_answer one.1.0 in
          ap (λ (vs : List Waiting). bytes_of vs ++ on_wire (sdo_answer_id node) (Some slot)) left.0
          ∙ here_on_wire (sdo_answer_id node) slot id
          ∙ ap (λ (x : List ℕ). x ∷ [])
          (ap (λ (x : BaseFrame). x.bytes) same ∙ ap (λ (v : Waiting). v.frame.bytes) left.1 ∙ one.1.1)

      answer_waits : answers_of d.waiting ≡ [] → ⊥
      unfolding answers_of
      answer_waits e = false≢true (sym (none_passes answers none d.waiting place within e) ∙ an_answer)

      unasked : bytes_of requests ++ [] ≡ [] → requests_under_way node requests (Some slot) ≡ []
      unasked e =
          ap (λ (zs : List (List ℕ)). zs ++ on_wire (sdo_request_id node) (Some slot)) (both_empty _ [] e).0
          ∙ not_on_wire (sdo_request_id node) slot (λ f. apart f)
        where
          apart : slot.frame.id ≡ sdo_request_id node → ⊥
          apart f = let top = is.1 in omega (arith, f, id, top)

      none_boots : IsBootUpOf node (Some slot) → ⊥
      none_boots b = apart b.0
        where
          apart : slot.frame.id ≡ error_control_id node → ⊥
          apart f = omega (arith, f, id)

      abbrev Told : Type 0
      Told = IsExchanging image node marks sent stage requests (Some slot)

      by_answer : (traffic : Traffic)
          → IsTraffic (requests_under_way node requests None) (answers_under_way node d None) traffic
          → AsStage image node marks d.values d.transfer stage traffic → Told
      by_answer Silence i h = absurd (answer_waits (none_has_bytes (answers_of d.waiting) (both_empty _ [] i.1).0))
      by_answer (Asks r) i h = absurd (answer_waits (none_has_bytes (answers_of d.waiting) (both_empty _ [] i.1).0))
      by_answer (Tells a) i h = record {
        no_boot_up = none_boots;
        traffic = Tells a;
        is_traffic = (unasked i.0, told a (sym (append-nil (bytes_of (answers_of d.waiting))) ∙ i.1));
        is_as_stage = h;
      }
      by_answer Anything i h = record {
        no_boot_up = none_boots;
        traffic = Anything;
        is_traffic = tt;
        is_as_stage = h;
      }

      answer_starts : Exchanges image node marks d stage requests None → Starts
      answer_starts h on up = by (h on (sym (still_waits no_boot_up) ∙ up))
        where
          by : IsBooting node d None ⊎ IsExchanging image node marks d stage requests None
              → IsBooting node sent (Some slot) ⊎ Told
          by (inl b) = absurd b.boot_up
          by (inr x) = inr (by_answer x.traffic x.is_traffic x.is_as_stage)

    -- whatever it is for
    by_purpose : (p : Purpose) → own.purpose ≡ p → IsOwnFrame node p own.frame → slot.frame ≡ own.frame
        → (p ≡ BootUp → answers_of d.waiting ≡ [])
        → Exchanges image node marks d stage requests None → Starts
    by_purpose BootUp e o same silent h =
        boot_up_starts (
          ap (λ (x : BaseFrame). x.id) (same ∙ o),
          ap (λ (x : BaseFrame). x.bytes) (same ∙ o),
        ) (ap (λ (q : Purpose). is_unwanted Sdos q) e) (silent refl)
    by_purpose Heartbeat e o same silent h =
        other_starts (control_foreign node is node is slot.frame (ap (λ (x : BaseFrame). x.id) same ∙ o.0)
        (λ b. o.1 (ap (λ (x : BaseFrame). x.bytes) (sym same) ∙ b.1)))
        (ap (λ (q : Purpose). is_same q BootUp) e) (ap (λ (q : Purpose). is_unwanted Sdos q) e) h
    by_purpose (Tpdo k) e o same silent h =
        other_starts (pdo_foreign node is slot.frame (ap (λ (x : BaseFrame). is_restricted x.id) same ∙ o))
        (ap (λ (q : Purpose). is_same q BootUp) e) (ap (λ (q : Purpose). is_unwanted Sdos q) e) h
    by_purpose (Sdo k) e o same silent h =
        answer_starts (ap (λ (x : BaseFrame). x.id) same ∙ o) (ap (λ (q : Purpose). is_same q BootUp) e)
        (ap (λ (q : Purpose). is_unwanted Sdos q) e) same h
    by_purpose Emergency e o same silent h =
        other_starts (emergency_foreign node is node is slot.frame (ap (λ (x : BaseFrame). x.id) same ∙ o))
        (ap (λ (q : Purpose). is_same q BootUp) e) (ap (λ (q : Purpose). is_unwanted Sdos q) e) h
    by_purpose Sync e o same silent h = absurd o
    by_purpose Time e o same silent h = absurd o
    by_purpose Nmt e o same silent h = absurd o

    pub own_starts : IsOwnFrame node own.purpose own.frame → slot.frame ≡ own.frame
        → (own.purpose ≡ BootUp → answers_of d.waiting ≡ [])
        → Exchanges image node marks d stage requests None → Starts
    own_starts o same silent h = by_purpose own.purpose refl o same silent h
