-- An entry of one actor leaves every other actor's own part as it was.
use Rattle.std.proofs.Common.{◌≡◌, ◌≢◌, ℕ, ◌<◌, Bool, true, false, List, Option, Some, None, length, map, get_or, refl, ap, sym, ◌∙◌, subst, arith, inl, inr, ⊎_elim}
use Rattle.std.specs.Prelude.{not, ◌&&◌, ◌==◌, slice_get, option_map, position, if◌then◌else◌}
use Rattle.std.proofs.lemmas.Option.{slice_get-get_or}
use Rattle.std.proofs.lemmas.Bool.{eqb-true, ne_eqb}
use Rattle.std.proofs.lemmas.Bool.Decides.{eqb_tells}
use Rattle.uv_num.specs.declared.errno.Errno.{Errno}
use Rattle.uv_num.specs.declared.limits.TheConstants.{DRIVER}
use Rattle.uv_num.specs.declared.request.Act as request
use Rattle.uv_num.specs.declared.request.Act.TheVariants.{Modify, Query, Bind, Unbind, Async}
use Rattle.uv_pool.proofs.Choosing.{position_same}
use Rattle.uv_machine.specs.declared.entry.Entry.{Entry}
use Rattle.uv_machine.specs.declared.entry.Entry.TheVariants.{Open, Enter, Step, Unplug, Tear, Kill, Gone, Dissociated, Closed}
use Rattle.uv_machine.specs.declared.entry.Answer.{Answer}
use Rattle.uv_machine.specs.declared.entry.Answer.TheVariants as answer
use Rattle.uv_machine.specs.declared.file.File.{File}
use Rattle.uv_machine.specs.declared.file.FilePhase.{FilePhase}
use Rattle.uv_machine.specs.declared.file.FilePhase.TheVariants as file
use Rattle.uv_machine.specs.declared.object.Object.{Object}
use Rattle.uv_machine.specs.declared.call.InFlight.{InFlight}
use Rattle.uv_machine.specs.declared.state.State.{State}
use Rattle.uv_machine.specs.Objects.{is_doomed}
use Rattle.uv_machine.specs.Plans.{own_object}
use Rattle.uv_machine.specs.States.{call_of, object_with, phase_in, phase_of, is_fresh, is_open, is_callable, is_unplugged, device_of}
use Rattle.uv_machine.specs.Effects.{refusal_in, act, buried_if_doomed, with_burial, gone_from, unless_answered, with_file, opened, in_phase, dissociated}
use Rattle.uv_machine.specs.Histories.{Allowed, after, state_of}
use Rattle.uv_machine.specs.Laws.{is_of}
use Rattle.uv_machine.proofs.Apart.{call_of-after}
use Rattle.uv_machine.proofs.Files.{phase_of-here}
use Rattle.uv_machine.proofs.FilesApart.{phase_of-apart}
use Rattle.uv_machine.proofs.Reaching.{Reached-state_of, Reached-after}
use Rattle.uv_machine.proofs.Turns.{Turn, IsTurn-allowed}
use Rattle.uv_machine.proofs.Turns.Turn.{Refuses, Reserves, Looks, Makes, Commits, Does, Locks, Checks, Finishes, Aborts, Frees, Leaves}
use Rattle.uv_graph.specs.declared.out.Out.{Out}
use Rattle.uv_graph.specs.declared.out.Own.{Own}
use Rattle.uv_graph.specs.Owns.{is_torn_by, tears_it, none_pulled, pulled_by, is_entry_by, OwnStandsApart, NamesItsActor}
use Rattle.uv_pool.specs.declared.deed.Life.{Life}
use Rattle.uv_graph.specs.Kept.{out_of, kill_of}
use Rattle.uv_graph.specs.Lives.{lives_out}
use Rattle.uv_graph.proofs.Going.{was_fresh}
use Rattle.uv_graph.proofs.Knowing.{out_stays, kill_stays}
use Rattle.uv_graph.proofs.MachineLaws.{state_goes_on}
use Rattle.uv_graph.proofs.Making.{map_same}
use Rattle.uv_graph.proofs.Taking.{torn_is}

own_call : (m : State) (e : Entry) (a b : ℕ) → is_entry_by m a e ≡ true → a ≢ b → is_of b e ≡ false
own_call m (Open c f d x) a b is ne = refl
own_call m (Enter c f request x) a b is ne = ne_eqb c b (λ e. ne (sym (eqb-true c a is) ∙ e))
own_call m (Step c w o found x) a b is ne = ne_eqb c b (λ e. ne (sym (eqb-true c a is) ∙ e))
own_call m (Unplug d) a b is ne = refl
own_call m (Tear f by) a b is ne = refl
own_call m (Kill o) a b is ne = refl
own_call m (Gone o kept) a b is ne = refl
own_call m (Dissociated f) a b is ne = refl
own_call m (Closed f) a b is ne = refl

-- Tears.

abbrev pub TornAlike : ℕ → State → State → Type 0
TornAlike b m m' = (f : ℕ) → is_torn_by b (phase_of m' f) ≡ is_torn_by b (phase_of m f)

alike_by : (b : ℕ) (m m' : State) (f : ℕ) → ((g : ℕ) → f ≢ g → phase_of m' g ≡ phase_of m g) → is_torn_by b (phase_of m' f) ≡ false → is_torn_by b (phase_of m f) ≡ false → TornAlike b m m'
alike_by b m m' f other now before g =
    ⊎_elim
    (λ h. (let P : ℕ → Type 0 = λ v. is_torn_by b (phase_of m' v) ≡ is_torn_by b (phase_of m v) in subst P h.1 (now ∙ sym before)))
    (λ h. ap (is_torn_by b) (other g h.1))
    (eqb_tells f g)

fresh_not : (b : ℕ) (p : FilePhase) → is_fresh p ≡ true → is_torn_by b p ≡ false
fresh_not b file.Fresh e = refl
fresh_not b file.Open e = absurd cc
fresh_not b (file.Tearing by) e = absurd cc
fresh_not b file.Dissociated e = absurd cc
fresh_not b file.Closed e = absurd cc

opened_not : (b c d : ℕ) (slot : Option File) → is_torn_by b (phase_in (option_map (opened c d) slot)) ≡ false
opened_not b c d None = refl
opened_not b c d (Some x) = refl

torn_not : (b by : ℕ) (slot : Option File) → (by == b) ≡ false → is_torn_by b (phase_in (option_map (in_phase (file.Tearing by)) slot)) ≡ false
torn_not b by None e = refl
torn_not b by (Some x) e = e

left_not : (b : ℕ) (slot : Option File) → is_torn_by b (phase_in (option_map dissociated slot)) ≡ false
left_not b None = refl
left_not b (Some x) = refl

closed_not : (b : ℕ) (slot : Option File) → is_torn_by b (phase_in (option_map (in_phase file.Closed) slot)) ≡ false
closed_not b None = refl
closed_not b (Some x) = refl

may_not : (b : ℕ) (driver gone : Bool) (p : FilePhase) → (if driver then is_open p && gone else is_callable p) ≡ true → is_torn_by b p ≡ false
may_not b true gone file.Fresh e = refl
may_not b true gone file.Open e = refl
may_not b true gone (file.Tearing by) e = absurd cc
may_not b true gone file.Dissociated e = refl
may_not b true gone file.Closed e = refl
may_not b false gone file.Fresh e = refl
may_not b false gone file.Open e = refl
may_not b false gone (file.Tearing by) e = absurd cc
may_not b false gone file.Dissociated e = refl
may_not b false gone file.Closed e = refl

-- a file that one actor tears another doesn't
other_tears : (a b : ℕ) (p : FilePhase) → a ≢ b → is_torn_by a p ≡ true → is_torn_by b p ≡ false
other_tears a b p ne e = ap (is_torn_by b) (torn_is a p e) ∙ ne_eqb a b ne

alike_unless : (b : ℕ) (m m' : State) (e : Option Errno) → (e ≡ None → TornAlike b m m') → TornAlike b m (unless_answered m e m')
alike_unless b m m' None go f = go refl f
alike_unless b m m' (Some e) go f = refl

torn_alike : (m : State) (e : Entry) (a b : ℕ) → Allowed m e → is_entry_by m a e ≡ true → a ≢ b → TornAlike b m (after m e)
torn_alike m (Open c f d x) a b allowed is ne g =
    alike_unless b m (with_file m f (opened c d)) (refusal_in x)
    (λ e. alike_by b m (with_file m f (opened c d)) f (λ k ne'. phase_of-apart m (Open c f d answer.Ok) k (ne_eqb f k ne'))
    (ap (is_torn_by b) (phase_of-here m f (opened c d)) ∙ opened_not b c d (slice_get m.files f)) (fresh_not b (phase_of m f) (was_fresh (is_fresh (phase_of m f)) _ x allowed.3 e))) g
torn_alike m (Enter c f request x) a b allowed is ne g = ap (is_torn_by b) (phase_of-apart m (Enter c f request x) g refl)
torn_alike m (Step c w o found x) a b allowed is ne g = ap (is_torn_by b) (phase_of-apart m (Step c w o found x) g refl)
torn_alike m (Unplug d) a b allowed is ne g = refl
torn_alike m (Tear f by) a b allowed is ne g =
    alike_by b m (after m (Tear f by)) f (λ k ne'. phase_of-apart m (Tear f by) k (ne_eqb f k ne'))
    (ap (is_torn_by b) (phase_of-here m f (in_phase (file.Tearing by))) ∙ torn_not b by (slice_get m.files f) (ne_eqb by b (λ e. ne (sym (eqb-true by a is) ∙ e))))
    (may_not b (by == DRIVER) (is_unplugged m (device_of m f)) (phase_of m f) allowed.2) g
torn_alike m (Kill o) a b allowed is ne g = refl
torn_alike m (Gone o kept) a b allowed is ne g = ap (is_torn_by b) (phase_of-apart m (Gone o kept) g refl)
torn_alike m (Dissociated f) a b allowed is ne g =
    alike_by b m (after m (Dissociated f)) f (λ k ne'. phase_of-apart m (Dissociated f) k (ne_eqb f k ne'))
    (ap (is_torn_by b) (phase_of-here m f dissociated) ∙ left_not b (slice_get m.files f)) (other_tears a b (phase_of m f) ne is) g
torn_alike m (Closed f) a b allowed is ne g =
    alike_by b m (after m (Closed f)) f (λ k ne'. phase_of-apart m (Closed f) k (ne_eqb f k ne'))
    (ap (is_torn_by b) (phase_of-here m f (in_phase file.Closed)) ∙ closed_not b (slice_get m.files f)) (other_tears a b (phase_of m f) ne is) g

abbrev pub no_file : File
no_file = record { phase = file.Fresh; device = 0; client = 0; event = false }

tears_at : (b : ℕ) (m : State) (i : ℕ) → i < length m.files → tears_it b (get_or m.files i no_file) ≡ is_torn_by b (phase_of m i)
tears_at b m i low = ap (λ s. is_torn_by b (phase_in s)) (sym (slice_get-get_or m.files i no_file low))

tear_same : (b : ℕ) (m m' : State) → length m'.files ≡ length m.files → TornAlike b m m' → position (tears_it b) m'.files ≡ position (tears_it b) m.files
tear_same b m m' long alike =
    position_same (tears_it b) (tears_it b) m'.files m.files
    (map_same (tears_it b) (tears_it b) m'.files m.files no_file no_file long (λ i low. tears_at b m' i low ∙ alike i ∙ sym (tears_at b m i (omega (arith, low, long)))))

-- Devices.

plugged_if : (b : Bool) (m : State) (x : Object) → (if b then with_burial m x else m).plugged ≡ m.plugged
plugged_if true m x = refl
plugged_if false m x = refl

plugged_by : (m : State) (slot : Option Object) → (buried_if_doomed m slot).plugged ≡ m.plugged
plugged_by m None = refl
plugged_by m (Some x) = plugged_if (is_doomed x.phase) m x

plugged_act : (m : State) (c : ℕ) (call : InFlight) (x : Answer) (what : request.Act) → (act m c call x what).plugged ≡ m.plugged
plugged_act m c call x (Modify to attrs) = refl
plugged_act m c call x Query = refl
plugged_act m c call x (Bind offset long access) = refl
plugged_act m c call x (Unbind offset long access) = refl
plugged_act m c call x Async = refl

plugged_turn : (m : State) (c : ℕ) (call : InFlight) (x : Answer) (m' : State) → Turn m c call x m' → m'.plugged ≡ m.plugged
plugged_turn m c call x m' (Refuses t) = ap (λ (s : State). s.plugged) t.gives
plugged_turn m c call x m' (Reserves t) = ap (λ (s : State). s.plugged) t.gives
plugged_turn m c call x m' (Looks t) = ap (λ (s : State). s.plugged) t.gives
plugged_turn m c call x m' (Makes t) = ap (λ (s : State). s.plugged) t.gives
plugged_turn m c call x m' (Commits t) = ap (λ (s : State). s.plugged) t.gives
plugged_turn m c call x m' (Does t) = ap (λ (s : State). s.plugged) t.gives ∙ plugged_act m c call x t.what
plugged_turn m c call x m' (Locks t) = ap (λ (s : State). s.plugged) t.gives
plugged_turn m c call x m' (Checks t) = ap (λ (s : State). s.plugged) t.gives
plugged_turn m c call x m' (Finishes t) = ap (λ (s : State). s.plugged) t.gives ∙ plugged_by m (object_with m (own_object call))
plugged_turn m c call x m' (Aborts t) = ap (λ (s : State). s.plugged) t.gives
plugged_turn m c call x m' (Frees t) = ap (λ (s : State). s.plugged) t.gives
plugged_turn m c call x m' (Leaves t) = ap (λ (s : State). s.plugged) t.gives

plugged_unless : (m m' : State) (e : Option Errno) → m'.plugged ≡ m.plugged → (unless_answered m e m').plugged ≡ m.plugged
plugged_unless m m' None h = h
plugged_unless m m' (Some e) h = refl

plugged_gone : (m : State) (o : ℕ) (slot : Option Object) → (gone_from m o slot).plugged ≡ m.plugged
plugged_gone m o None = refl
plugged_gone m o (Some x) = refl

pulled_same : (m m' : State) (b : ℕ) → m'.plugged ≡ m.plugged → pulled_by m' b ≡ pulled_by m b
pulled_same m m' b e = ap (λ v. if b == DRIVER then map not v else none_pulled) e

pulled_alike : (m : State) (e : Entry) (a b : ℕ) → Allowed m e → is_entry_by m a e ≡ true → a ≢ b → pulled_by (after m e) b ≡ pulled_by m b
pulled_alike m (Open c f d x) a b allowed is ne = pulled_same m (after m (Open c f d x)) b (plugged_unless m _ (refusal_in x) refl)
pulled_alike m (Enter c f request x) a b allowed is ne = pulled_same m (after m (Enter c f request x)) b (plugged_unless m _ (refusal_in x) refl)
pulled_alike m (Step c w o found x) a b allowed is ne =
    let t = IsTurn-allowed m c w o found x allowed in
    pulled_same m (after m (Step c w o found x)) b (plugged_turn m c t.call x (after m (Step c w o found x)) t.turn)
pulled_alike m (Unplug d) a b allowed is ne =
    let other : (b == DRIVER) ≡ false = ne_eqb b DRIVER (λ e. ne (sym (eqb-true DRIVER a is) ∙ sym e)) in
    ap (λ v. if v then map not (after m (Unplug d)).plugged else none_pulled) other ∙ sym (ap (λ v. if v then map not m.plugged else none_pulled) other)
pulled_alike m (Tear f by) a b allowed is ne = refl
pulled_alike m (Kill o) a b allowed is ne = refl
pulled_alike m (Gone o kept) a b allowed is ne = pulled_same m (after m (Gone o kept)) b (plugged_gone m o (object_with m o))
pulled_alike m (Dissociated f) a b allowed is ne = refl
pulled_alike m (Closed f) a b allowed is ne = refl

-- The whole.

own_eq : (b : ℕ) (call call' : Option InFlight) (out out' : Option Out) (lives lives' : List Life) (tear tear' : Option ℕ) (kill kill' : Option Out) (ends ends' : List Life) (spare spare' : ℕ) (pulled pulled' : List Bool)
    → call' ≡ call → out' ≡ out → lives' ≡ lives → tear' ≡ tear → kill' ≡ kill → ends' ≡ ends → spare' ≡ spare → pulled' ≡ pulled
    → record { actor = b; call = call'; out = out'; out_lives = lives'; tear = tear'; kill = kill'; kill_lives = ends'; spare = spare'; pulled = pulled' }
    ≡ (let own : Own = record { actor = b; call = call; out = out; out_lives = lives; tear = tear; kill = kill; kill_lives = ends; spare = spare; pulled = pulled } in own)
own_eq b call call' out out' lives lives' tear tear' kill kill' ends ends' spare spare' pulled pulled' e1 e2 e3 e4 e5 e6 e7 e8 =
    ap (λ v. record { actor = b; call = v; out = out'; out_lives = lives'; tear = tear'; kill = kill'; kill_lives = ends'; spare = spare'; pulled = pulled' }) e1
    ∙ ap (λ v. record { actor = b; call = call; out = v; out_lives = lives'; tear = tear'; kill = kill'; kill_lives = ends'; spare = spare'; pulled = pulled' }) e2
    ∙ ap (λ v. record { actor = b; call = call; out = out; out_lives = v; tear = tear'; kill = kill'; kill_lives = ends'; spare = spare'; pulled = pulled' }) e3
    ∙ ap (λ v. record { actor = b; call = call; out = out; out_lives = lives; tear = v; kill = kill'; kill_lives = ends'; spare = spare'; pulled = pulled' }) e4
    ∙ ap (λ v. record { actor = b; call = call; out = out; out_lives = lives; tear = tear; kill = v; kill_lives = ends'; spare = spare'; pulled = pulled' }) e5
    ∙ ap (λ v. record { actor = b; call = call; out = out; out_lives = lives; tear = tear; kill = kill; kill_lives = v; spare = spare'; pulled = pulled' }) e6
    ∙ ap (λ v. record { actor = b; call = call; out = out; out_lives = lives; tear = tear; kill = kill; kill_lives = ends; spare = v; pulled = pulled' }) e7
    ∙ ap (λ v. record { actor = b; call = call; out = out; out_lives = lives; tear = tear; kill = kill; kill_lives = ends; spare = spare; pulled = v }) e8

-- the lives of a cell whose deed is out
lives_alike : (h g : List Entry) (hand : Option Out) → ((out : Out) → hand ≡ Some out → lives_out g (Some out) ≡ lives_out h (Some out)) → lives_out g hand ≡ lives_out h hand
lives_alike h g None stay = refl
lives_alike h g (Some out) stay = stay out refl

pub own-apart : OwnStandsApart
own-apart old new e a b legal outs allowed is ne more beside =
    let m = state_of old.history in
    let now : state_of new.history ≡ after m e = ap state_of more ∙ state_goes_on old.history e in
    let r = Reached-state_of old.history legal in
    let r' = Reached-after m e allowed r in
    let long : length (after m e).files ≡ length m.files = r'.files ∙ sym r.files in
    own_eq b _ _ _ _ _ _ _ _ _ _ _ _ _ _ _ _
    (ap (λ s. call_of s b) now ∙ call_of-after m e b (own_call m e a b is ne))
    (beside.outs b ne)
    (ap (lives_out new.history) (beside.outs b ne) ∙ lives_alike old.history new.history (out_of old b) (λ out h. out_stays old.history new.history e more legal allowed b out (outs.outs b out h)))
    (ap (λ (s : State). position (tears_it b) s.files) now ∙ tear_same b m (after m e) long (torn_alike m e a b allowed is ne))
    (beside.kills b ne)
    (ap (lives_out new.history) (beside.kills b ne) ∙ lives_alike old.history new.history (kill_of old b) (λ out h. kill_stays old.history new.history e more legal allowed b out (outs.kills b out h)))
    (beside.spares b ne)
    (ap (λ s. pulled_by s b) now ∙ pulled_alike m e a b allowed is ne)

-- Whom an entry names.

pub names-actor : NamesItsActor
names-actor m (Open c f d x) a is = inl (ap (λ (v : ℕ). Some v) (eqb-true c a is))
names-actor m (Enter c f request x) a is = inl (ap (λ (v : ℕ). Some v) (eqb-true c a is))
names-actor m (Step c w o found x) a is = inl (ap (λ (v : ℕ). Some v) (eqb-true c a is))
names-actor m (Unplug d) a is = inl (ap (λ (v : ℕ). Some v) (eqb-true DRIVER a is))
names-actor m (Tear f by) a is = inl (ap (λ (v : ℕ). Some v) (eqb-true by a is))
names-actor m (Kill o) a is = inr refl
names-actor m (Gone o kept) a is = inr refl
names-actor m (Dissociated f) a is = inr refl
names-actor m (Closed f) a is = inr refl
