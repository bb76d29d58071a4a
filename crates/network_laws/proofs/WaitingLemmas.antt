-- The requests to a node among the frames that wait.
use Rattle.std.proofs.Common.{◌≡◌, ◌≢◌, ℕ, Bool, true, false, not, List, [], ◌∷◌, ◌++◌, Option, Some, None, refl, sym, ap, ◌∙◌, arith}
use Rattle.std.specs.Prelude.{if◌then◌else◌, ◌==◌, ◌||◌}
use Rattle.std.proofs.lemmas.Bool.{false≢true}
use Rattle.std.proofs.lemmas.Bool.Decides.{nat_tests}
use Rattle.std.proofs.lemmas.List.{append-nil}
use Rattle.std.proofs.lemmas.List.Elements.{filter-append}
use Rattle.can_frame.specs.Frames.{BaseFrame}
use Rattle.can_frame.specs.WaitingFrames.{is_same, is_unwanted, waiting, with_latest, without_unwanted}
use Rattle.can_frame.specs.declared.purpose.Purpose.{Purpose}
use Rattle.can_frame.specs.declared.purpose.Purpose.TheVariants.{BootUp, Emergency, Heartbeat, Nmt, Sdo, Sync, Time, Tpdo}
use Rattle.can_frame.specs.declared.unwanted.Unwanted.TheVariants.{SdoOf}
use Rattle.can_frame.specs.declared.waiting.Waiting.{Waiting}
use Rattle.can_frame.proofs.PurposeLemmas.{same_purpose}
use Rattle.node_boot.specs.declared.boot_step.BootStep.{BootStep}
use Rattle.node_boot.specs.declared.note_kind.NoteKind.{NoteKind}
use Rattle.node_boot.specs.declared.note_kind.NoteKind.TheVariants as kind
use Rattle.manager_nodes.specs.declared.booting.Booting.{Booting}
use Rattle.image_parts.specs.declared.start_mode.StartMode.{StartMode}
use Rattle.image_parts.specs.declared.start_mode.StartMode.TheVariants.{ConfiguredNodes, EachNode, WholeNetwork}
use Rattle.nmt_boot.specs.Startup.{Startup, frames_of_configured, network_start_frames, start_frames, start_of, starts_each}
use Rattle.nmt_boot.specs.Startup.{own_start, starts_network, starts_with_network}
use Rattle.manager_nodes.specs.Table.{has_booted, is_own, sdo_frames}
use Rattle.network_laws.specs.Requests.{requests_to}

pub number_itself : (n : ℕ) → (n == n) ≡ true
number_itself n = grind (arith, nat_tests)

pub number_other : (n k : ℕ) → n ≢ k → (n == k) ≡ false
number_other n k apart = by (n == k) refl
  where
    is : (n == k) ≡ true → n ≡ k
    is e = grind (arith, nat_tests)

    by : (b : Bool) → (n == k) ≡ b → b ≡ false
    by true e = absurd (apart (is e))
    by false e = refl

pub number_differs : (n k : ℕ) → (n == k) ≡ false → n ≢ k
number_differs n k e same = absurd (false≢true (sym e ∙ ap (λ x. x == k) same ∙ number_itself k))

module _ (n : ℕ) where
  pub requests-append : (xs ys : List Waiting) → requests_to n (xs ++ ys) ≡ requests_to n xs ++ requests_to n ys
  unfolding requests_to
  requests-append xs ys = filter-append (λ (w : Waiting). is_unwanted (SdoOf n) w.purpose) xs ys

  own_request : (r : Option (List ℕ)) → requests_to n (sdo_frames n r) ≡ sdo_frames n r
  unfolding requests_to
  own_request None = refl
  own_request (Some bytes) = rw (number_itself n) refl

  other_request : (k : ℕ) → n ≢ k → (r : Option (List ℕ)) → requests_to n (sdo_frames k r) ≡ []
  unfolding requests_to
  other_request k apart None = refl
  other_request k apart (Some bytes) = rw (number_other n k apart) refl

  no_configured : (nodes : List Booting) → requests_to n (starts_with_network nodes) ≡ []
  unfolding requests_to
  no_configured [] = refl
  no_configured (node ∷ nodes) = by (has_booted node.stage || is_own node.stage) (no_configured nodes)
    where
      by : (b : Bool) → requests_to n (starts_with_network nodes) ≡ []
          → requests_to n ((if b then start_of node.number else []) ++ starts_with_network nodes) ≡ []
      by true rest = rest
      by false rest = rest

  no_network_start : (mode : StartMode) (nodes : List Booting) → requests_to n (network_start_frames mode nodes) ≡ []
  unfolding requests_to
  no_network_start EachNode nodes = refl
  no_network_start WholeNetwork nodes = refl
  no_network_start ConfiguredNodes nodes = no_configured nodes

  no_start : (startup : Startup) (nodes : List Booting) (k : ℕ) (note : Option NoteKind)
      → requests_to n (start_frames startup nodes k note) ≡ []
  unfolding requests_to frames_of_configured
  no_start startup nodes k None = refl
  no_start startup nodes k (Some kind.Lost) = refl
  no_start startup nodes k (Some kind.Configured) = by (starts_each startup) (starts_network startup nodes)
    where
      by : (b c : Bool)
          → requests_to n (if b then start_of k
          else if c then network_start_frames startup.mode nodes else []) ≡ []
      by true c = refl
      by false true = no_network_start startup.mode nodes
      by false false = refl
  no_start startup nodes k (Some kind.Difference) = refl
  no_start startup nodes k (Some (kind.Aborted abort)) = refl
  no_start startup nodes k (Some kind.TimedOut) = refl

  -- the start of the manager's own node
  no_own_start : (startup : Startup) (k : ℕ) → requests_to n (own_start startup k) ≡ []
  unfolding requests_to own_start
  no_own_start startup k = by startup.is_started
    where
      by : (b : Bool) → requests_to n (if b then start_of k else []) ≡ []
      by true = refl
      by false = refl

  pub own_start_more : (startup : Startup) (k : ℕ) (ws : List Waiting)
      → requests_to n (ws ++ own_start startup k) ≡ requests_to n ws
  own_start_more startup k ws = rw (requests-append ws (own_start startup k), no_own_start startup k)
      (append-nil (requests_to n ws))

  -- ---- the request of the node itself, and of another

  pub own_more : (r : Option (List ℕ)) (ws : List Waiting)
      → requests_to n (ws ++ sdo_frames n r) ≡ requests_to n ws ++ sdo_frames n r
  own_more r ws = rw (requests-append ws (sdo_frames n r), own_request r) refl

  pub other_more : (k : ℕ) → n ≢ k → (r : Option (List ℕ)) (ws : List Waiting)
      → requests_to n (ws ++ sdo_frames k r) ≡ requests_to n ws
  other_more k apart r ws = rw (requests-append ws (sdo_frames k r), other_request k apart r)
      (append-nil (requests_to n ws))

  -- ---- a step of the node itself, and of another: nodes that are started

  module _ (startup : Startup) (nodes : List Booting) where
    pub own_step : (step : BootStep) (ws : List Waiting)
        → requests_to n ((ws ++ sdo_frames n step.request) ++ start_frames startup nodes n step.note)
        ≡ requests_to n ws ++ sdo_frames n step.request
    own_step step ws = rw (
      requests-append (ws ++ sdo_frames n step.request) (start_frames startup nodes n step.note),
      own_more step.request ws,
      no_start startup nodes n step.note,
    ) (append-nil (requests_to n ws ++ sdo_frames n step.request))

    pub other_step : (k : ℕ) → n ≢ k → (step : BootStep) (ws : List Waiting)
        → requests_to n ((ws ++ sdo_frames k step.request) ++ start_frames startup nodes k step.note)
        ≡ requests_to n ws
    other_step k apart step ws = rw (
      requests-append (ws ++ sdo_frames k step.request) (start_frames startup nodes k step.note),
      other_more k apart step.request ws,
      no_start startup nodes k step.note,
    ) (append-nil (requests_to n ws))

  -- ---- frames that are dropped

  dropped : (b : Bool) (w : Waiting) (rest : List Waiting) → is_unwanted (SdoOf n) w.purpose ≡ b
      → requests_to n rest ≡ [] → requests_to n (if not b then w ∷ rest else rest) ≡ []
  unfolding requests_to
  dropped true w rest e h = h
  dropped false w rest e h = rw e h

  pub own_dropped : (ws : List Waiting) → requests_to n (without_unwanted (SdoOf n) ws) ≡ []
  unfolding requests_to
  own_dropped [] = refl
  own_dropped (w ∷ ws) = dropped (is_unwanted (SdoOf n) w.purpose) w (without_unwanted (SdoOf n) ws) refl
      (own_dropped ws)

  module _ (k : ℕ) (apart : n ≢ k) where
    not_both : (p : Purpose) → is_unwanted (SdoOf k) p ≡ true → is_unwanted (SdoOf n) p ≡ false
    not_both BootUp e = refl
    not_both Heartbeat e = refl
    not_both (Tpdo j) e = refl
    not_both (Sdo j) e = number_other n j (λ same. apart (same ∙ sym (is k j e)))
      where
        is : (a b : ℕ) → (a == b) ≡ true → a ≡ b
        is a b f = grind (arith, nat_tests)
    not_both Emergency e = refl
    not_both Sync e = refl
    not_both Time e = refl
    not_both Nmt e = refl

    kept : (b c : Bool) (w : Waiting) (rest ws : List Waiting) → (b ≡ true → c ≡ false)
        → is_unwanted (SdoOf n) w.purpose ≡ c → requests_to n rest ≡ requests_to n ws
        → requests_to n (if not b then w ∷ rest else rest) ≡ requests_to n (w ∷ ws)
    unfolding requests_to
    kept true c w rest ws only e h = rw (e, only refl) h
    kept false true w rest ws only e h = rw e (ap (λ (xs : List Waiting). w ∷ xs) h)
    kept false false w rest ws only e h = rw e h

    pub others_dropped : (ws : List Waiting) → requests_to n (without_unwanted (SdoOf k) ws) ≡ requests_to n ws
    unfolding requests_to
    others_dropped [] = refl
    others_dropped (w ∷ ws) =
        kept (is_unwanted (SdoOf k) w.purpose) (is_unwanted (SdoOf n) w.purpose) w (without_unwanted (SdoOf k) ws) ws
        (not_both w.purpose) refl (others_dropped ws)

  -- ---- a frame that takes the place of one of its purpose

  module _ (purpose : Purpose) (frame : BaseFrame) (no_sdo : is_unwanted (SdoOf n) purpose ≡ false) where
    replaced : (b : Bool) (w : Waiting) (rest ws : List Waiting) → (b ≡ true → w.purpose ≡ purpose)
        → requests_to n rest ≡ requests_to n ws
        → requests_to n (if b then waiting purpose frame ∷ ws else w ∷ rest) ≡ requests_to n (w ∷ ws)
    unfolding requests_to
    replaced true w rest ws is h = rw (is refl, no_sdo) refl
    replaced false w rest ws is h = by (is_unwanted (SdoOf n) w.purpose) refl
      where
        by : (c : Bool) → is_unwanted (SdoOf n) w.purpose ≡ c
            → requests_to n (w ∷ rest) ≡ requests_to n (w ∷ ws)
        by true e = rw e (ap (λ (xs : List Waiting). w ∷ xs) h)
        by false e = rw e h

    pub latest_leaves : (ws : List Waiting) → requests_to n (with_latest purpose frame ws) ≡ requests_to n ws
    unfolding requests_to
    latest_leaves [] = rw no_sdo refl
    latest_leaves (w ∷ ws) = replaced (is_same w.purpose purpose) w (with_latest purpose frame ws) ws
        (same_purpose w.purpose purpose) (latest_leaves ws)
