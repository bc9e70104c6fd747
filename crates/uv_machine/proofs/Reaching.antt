-- Every state that a legal history leads to is a reached one.
use Rattle.std.proofs.Common.{◌≡◌, ◌≢◌, ℕ, zero, suc, Bool, true, false, List, [], ◌∷◌, Option, Some, None, length, map, refl, ap, sym, ◌∙◌, subst, arith, inl, inr, ◌⊎◌, ⊎_elim}
use Rattle.std.specs.Prelude.{not, ◌&&◌, ◌==◌, slice_get, option_map, unwrap_or, filter, replicate, if◌then◌else◌}
use Rattle.std.specs.Cmp.Derive.{both_true}
use Rattle.std.proofs.lemmas.Option.{none-some, same_Some}
use Rattle.std.proofs.lemmas.Bool.{and_parts, eqb-true, eq-eqb}
use Rattle.std.proofs.lemmas.Bool.Decides.{eqb_tells}
use Rattle.std.proofs.lemmas.List.{length-replicate}
use Rattle.uv_num.specs.declared.errno.Errno.{Errno}
use Rattle.uv_num.specs.declared.errno.Errno.TheVariants.{BadF, Inval}
use Rattle.uv_num.specs.declared.limits.TheConstants.{ACTOR_PLACES, DRIVER, FILES}
use Rattle.uv_num.specs.declared.request.Request.{Request}
use Rattle.uv_num.specs.Ids.{ids_of}
use Rattle.uv_num.specs.Looks.{looks_of}
use Rattle.uv_num.specs.Place.{at_place}
use Rattle.uv_num.proofs.PlaceLaws.{slice_get-at_place_same, length-at_place}
use Rattle.uv_machine.specs.declared.entry.Entry.{Entry}
use Rattle.uv_machine.specs.declared.entry.Entry.TheVariants.{Open, Enter, Step, Unplug, Tear, Kill, Gone, Dissociated, Closed}
use Rattle.uv_machine.specs.declared.entry.Word.{Word}
use Rattle.uv_machine.specs.declared.entry.Word.TheVariants.{Commit, Finish}
use Rattle.uv_machine.specs.declared.entry.Answer.{Answer}
use Rattle.uv_machine.specs.declared.object.Phase.{Phase}
use Rattle.uv_machine.specs.declared.object.Phase.TheVariants as phase
use Rattle.uv_machine.specs.declared.object.Object.{Object}
use Rattle.uv_machine.specs.declared.object.Change.{Change}
use Rattle.uv_machine.specs.declared.object.Change.TheVariants.{ToDoomed, ToHusk}
use Rattle.uv_machine.specs.declared.file.File.{File}
use Rattle.uv_machine.specs.declared.file.FilePhase.{FilePhase}
use Rattle.uv_machine.specs.declared.file.FilePhase.TheVariants as file
use Rattle.uv_machine.specs.declared.call.InFlight.{InFlight}
use Rattle.uv_machine.specs.declared.state.State.{State}
use Rattle.uv_machine.specs.Objects.{has_id, is_made, is_doomed, is_husk, is_standing_in, on_object}
use Rattle.uv_machine.specs.Plans.{looks_at, holds, entered}
use Rattle.uv_machine.specs.States.{the_call, call_of, object_with, phase_in, phase_of, device_of, is_unplugged, is_quiet, is_fresh, is_open, is_callable, is_tearing, is_removing, has_standing, has_doomed, newest_free, fresh_file, start}
use Rattle.uv_machine.specs.Effects.{refusal_in, with_file, with_object, with_burial, unless_answered, put_call, in_phase, opened, dissociated, without_plug, gone_from, not_in_file, after_closed, after_unplug}
use Rattle.uv_machine.specs.Outside.{MayAnswer, may_sweep, is_object, may_tear, may_kill_object, may_kill, may_go_object}
use Rattle.uv_machine.specs.Histories.{Allowed, after, state_from, state_of, IsLegalFrom, IsLegal}
use Rattle.uv_machine.specs.Reached.{IsIn, IsPhased, HoldsWell, IsHeldFor, IsLeft, Reached}
use Rattle.uv_machine.proofs.Members.{IsIn-map, Passes-find, Passes-filter, fails_any, slice_get-at_place_elsewhere}
use Rattle.uv_machine.proofs.Turns.{IsTurn-allowed}
use Rattle.uv_machine.proofs.Turning.{Reached-turn}
use Rattle.uv_machine.proofs.Phased.{IsPhased-entered}
use Rattle.uv_machine.proofs.Changing.{on_object-id, on_object-file, on_object-made, doomed-doomed, husk-doomed, doomed-husk, husk-husk}
use Rattle.uv_machine.proofs.Graph.{gains_doomed, gains_husk, IsGraph-map, IsGraph-filter}
use Rattle.uv_machine.proofs.Suiting.{CarriesIn, carries_change, carries_filter, all_carry, all_carry_in}
use Rattle.uv_machine.proofs.Files.{phase_of-other, phase_of-here, device_of-other, device_of-kept}
use Rattle.uv_machine.proofs.Keeping.{same_object}
use Rattle.uv_machine.proofs.Calling.{quiet_stays, quiet_none, held_alike, held_as, held_stays}

-- The start.

pub start_calls : (b : ℕ) (n : ℕ) (k : InFlight) → the_call (slice_get (replicate n None) b) ≡ Some k → ⊥
start_calls b zero k e = none-some k e
start_calls zero (suc n) k e = none-some k e
start_calls (suc b) (suc n) k e = start_calls b n k e

start_removing : (f n : ℕ) → is_removing (phase_in (slice_get (replicate n fresh_file) f)) ≡ true → ⊥
start_removing f zero e = cc
start_removing zero (suc n) e = cc
start_removing (suc f) (suc n) e = start_removing f n e

pub Reached-start : Reached start
unfolding start
Reached-start = record {
  files = length-replicate FILES fresh_file;
  calls = length-replicate {A = Option InFlight} ACTOR_PLACES None;
  phased = λ b k is. absurd (start_calls b ACTOR_PLACES k is);
  graph = record { rising = omega arith; uses = λ x h. absurd h };
  holds_well = λ b k is. absurd (start_calls b ACTOR_PLACES k is);
  alone = λ a b j k o is is' ne e. absurd (start_calls a ACTOR_PLACES j is);
  making = λ x h made. absurd h;
  ending = λ x h doomed. absurd h;
  husks = λ x h husk. absurd h;
  removing = λ f e. absurd (start_removing f FILES e);
}

-- A change of files and devices alone.

pub record FilesGo (m m' : State) : Type 0 where
  pub calls : m'.calls ≡ m.calls
  pub objects : m'.objects ≡ m.objects
  pub made : m'.made ≡ m.made
  pub count : length m'.files ≡ FILES
  pub ending : (x : Object) → IsIn x m.objects → is_doomed x.phase ≡ true → may_sweep m x.file ≡ true → may_sweep m' x.file ≡ true
  pub husks : (x : Object) → IsIn x m.objects → is_husk x.phase ≡ true → may_sweep m x.file ≡ true → (may_sweep m' x.file ≡ true) ⊎ IsLeft m' x.file
  pub left : (f : ℕ) → IsLeft m f → IsLeft m' f
  pub removing : (f : ℕ) → is_removing (phase_of m' f) ≡ true → is_unplugged m' (device_of m' f) ≡ true

pub call_of-alike : (m m' : State) → m'.calls ≡ m.calls → (b : ℕ) → call_of m' b ≡ call_of m b
call_of-alike m m' e b = ap (λ v. the_call (slice_get v b)) e

pub Reached-files : (m m' : State) → Reached m → FilesGo m m' → Reached m'
Reached-files m m' r g =
    let before : (b : ℕ) (k : InFlight) → call_of m' b ≡ Some k → call_of m b ≡ Some k = λ b k is. sym (call_of-alike m m' g.calls b) ∙ is in
    let within : (x : Object) → IsIn x m'.objects → IsIn x m.objects = λ x k. (let P : List Object → Type 0 = λ v. IsIn x v in subst P g.objects k) in
    record {
      files = g.count;
      calls = ap (λ (v : List (Option InFlight)). length v) g.calls ∙ r.calls;
      phased = λ b k is. r.phased b k (before b k is);
      graph = rw (g.made, g.objects) r.graph;
      holds_well = λ b k is. rw (g.made, g.objects) (r.holds_well b k (before b k is));
      alone = λ a b j k o is is' ne e. r.alone a b j k o (before a j is) (before b k is') ne e;
      making = λ x k h. held_alike m m' Commit x g.calls (r.making x (within x k) h);
      ending = λ x k h. ⊎_elim (λ held. inl (held_alike m m' Finish x g.calls held)) (λ swept. inr (g.ending x (within x k) h swept)) (r.ending x (within x k) h);
      husks = λ x k h. ⊎_elim (λ swept. g.husks x (within x k) h swept) (λ l. inr (g.left x.file l)) (r.husks x (within x k) h);
      removing = g.removing;
    }

-- the files beside one that changes
module _ (m : State) (f : ℕ) (g : File → File) where
  swept_other : (k : ℕ) → f ≢ k → may_sweep m k ≡ true → may_sweep (with_file m f g) k ≡ true
  swept_other k ne swept =
      let parts = and_parts (is_tearing (phase_of m k)) (is_quiet m k) swept in
      both_true (ap is_tearing (phase_of-other m f g k ne) ∙ parts.0) parts.1

  left_other : (k : ℕ) → f ≢ k → IsLeft m k → IsLeft (with_file m f g) k
  left_other k ne l = record {
    opened = ap is_fresh (phase_of-other m f g k ne) ∙ l.opened;
    gone = ap (is_unplugged m) (device_of-other m f g k ne) ∙ l.gone;
  }

  removing_other : Reached m → (k : ℕ) → f ≢ k → is_removing (phase_of (with_file m f g) k) ≡ true → is_unplugged (with_file m f g) (device_of (with_file m f g) k) ≡ true
  removing_other r k ne h = ap (is_unplugged m) (device_of-other m f g k ne) ∙ r.removing k (sym (ap is_removing (phase_of-other m f g k ne)) ∙ h)

  -- the file itself, whose device stays
  left_here : ((x : File) → (g x).device ≡ x.device) → ((s : Option File) → is_fresh (phase_in s) ≡ false → is_fresh (phase_in (option_map g s)) ≡ false) → IsLeft m f → IsLeft (with_file m f g) f
  left_here keeps fresh l = record {
    opened = ap is_fresh (phase_of-here m f g) ∙ fresh (slice_get m.files f) l.opened;
    gone = ap (is_unplugged m) (device_of-kept m f g keeps f) ∙ l.gone;
  }

by_file : (f k : ℕ) (P : ℕ → Type 0) → (f ≡ k → P k) → (f ≢ k → P k) → P k
by_file f k P here other = ⊎_elim (λ e. here e.1) (λ e. other e.1) (eqb_tells f k)

at_file : (f k : ℕ) (P : ℕ → Type 0) → f ≡ k → P f → P k
at_file f k P e h = subst P e h

-- Open.

fresh_apart : (p : FilePhase) → is_fresh p ≡ true → is_tearing p ≡ true → ⊥
fresh_apart file.Fresh h t = cc
fresh_apart file.Open h t = cc
fresh_apart (file.Tearing by) h t = cc
fresh_apart file.Dissociated h t = cc
fresh_apart file.Closed h t = cc

not_removing : (g : File → File) → ((x : File) → is_removing (g x).phase ≡ false) → (s : Option File) → is_removing (phase_in (option_map g s)) ≡ true → ⊥
not_removing g never None h = cc
not_removing g never (Some x) h = let none = never x in cc

opened_go : (m : State) (c f d : ℕ) → Reached m → is_fresh (phase_of m f) ≡ true → FilesGo m (with_file m f (opened c d))
opened_go m c f d r fresh =
    let m' = with_file m f (opened c d) in
    record {
      calls = refl;
      objects = refl;
      made = refl;
      count = length-at_place m.files f (opened c d) ∙ r.files;
      ending = λ x k h swept. swept_other m f (opened c d) x.file (λ e. fresh_apart (phase_of m f) fresh (ap (λ i. is_tearing (phase_of m i)) e ∙ (and_parts (is_tearing (phase_of m x.file)) (is_quiet m x.file) swept).0)) swept;
      husks = λ x k h swept. inl (swept_other m f (opened c d) x.file (λ e. fresh_apart (phase_of m f) fresh (ap (λ i. is_tearing (phase_of m i)) e ∙ (and_parts (is_tearing (phase_of m x.file)) (is_quiet m x.file) swept).0)) swept);
      left = λ k l. left_other m f (opened c d) k (λ e. (let no : is_fresh (phase_of m f) ≡ false = ap (λ i. is_fresh (phase_of m i)) e ∙ l.opened in cc)) l;
      removing = λ k.
          by_file f k (λ i. is_removing (phase_of m' i) ≡ true → is_unplugged m' (device_of m' i) ≡ true)
          (λ e h. absurd (not_removing (opened c d) (λ x. refl) (slice_get m.files f) (sym (ap is_removing (phase_of-here m f (opened c d))) ∙ ap (λ i. is_removing (phase_of m' i)) e ∙ h)))
          (λ ne h. removing_other m f (opened c d) r k ne h);
    }

-- Tear.

tearing_after : (by : ℕ) (x : Option File) → is_tearing (phase_in x) ≡ true → is_tearing (phase_in (option_map (in_phase (file.Tearing by)) x)) ≡ true
tearing_after by None h = h
tearing_after by (Some x) h = refl

torn_not_fresh : (by : ℕ) (s : Option File) → is_fresh (phase_in s) ≡ false → is_fresh (phase_in (option_map (in_phase (file.Tearing by)) s)) ≡ false
torn_not_fresh by None h = h
torn_not_fresh by (Some x) h = refl

torn_removing : (by : ℕ) (s : Option File) → is_removing (phase_in (option_map (in_phase (file.Tearing by)) s)) ≡ true → (by == DRIVER) ≡ true
torn_removing by None h = absurd cc
torn_removing by (Some x) h = h

driver_tears : (m : State) (f : ℕ) (driver : Bool) → driver ≡ true → (if driver then is_open (phase_of m f) && is_unplugged m (device_of m f) else is_callable (phase_of m f)) ≡ true → is_unplugged m (device_of m f) ≡ true
driver_tears m f true e h = (and_parts (is_open (phase_of m f)) (is_unplugged m (device_of m f)) h).1
driver_tears m f false e h = absurd cc

torn_go : (m : State) (f by : ℕ) → Reached m → may_tear m f by ≡ true → FilesGo m (with_file m f (in_phase (file.Tearing by)))
torn_go m f by r may =
    let g = in_phase (file.Tearing by) in
    let m' = with_file m f g in
    let swept : (k : ℕ) → may_sweep m k ≡ true → may_sweep m' k ≡ true =
    λ k h. by_file f k (λ i. may_sweep m' i ≡ true)
    (λ e. (
    let P : ℕ → Type 0 = λ i. may_sweep m' i ≡ true in
    let parts = and_parts (is_tearing (phase_of m f)) (is_quiet m f) (ap (may_sweep m) e ∙ h) in
    at_file f k P e (both_true (ap is_tearing (phase_of-here m f g) ∙ tearing_after by (slice_get m.files f) parts.0) parts.1)))
    (λ ne. swept_other m f g k ne h) in
    record {
      calls = refl;
      objects = refl;
      made = refl;
      count = length-at_place m.files f g ∙ r.files;
      ending = λ x k h s. swept x.file s;
      husks = λ x k h s. inl (swept x.file s);
      left = λ k l. by_file f k (λ i. IsLeft m' i)
          (λ e. (let P : ℕ → Type 0 = λ i. IsLeft m' i in let Q : ℕ → Type 0 = λ i. IsLeft m i in at_file f k P e (left_here m f g (λ x. refl) (torn_not_fresh by) (subst Q (sym e) l))))
          (λ ne. left_other m f g k ne l);
      removing = λ k.
          by_file f k (λ i. is_removing (phase_of m' i) ≡ true → is_unplugged m' (device_of m' i) ≡ true)
          (λ e h. (
          let here : is_removing (phase_in (option_map g (slice_get m.files f))) ≡ true = sym (ap is_removing (phase_of-here m f g)) ∙ ap (λ i. is_removing (phase_of m' i)) e ∙ h in
          let gone : is_unplugged m (device_of m f) ≡ true = driver_tears m f (by == DRIVER) (torn_removing by (slice_get m.files f) here) may in
          ap (λ i. is_unplugged m (device_of m' i)) (sym e) ∙ ap (is_unplugged m) (device_of-kept m f g (λ x. refl) f) ∙ gone))
          (λ ne h. removing_other m f g r k ne h);
    }

-- Dissociated.

doomed_stands : (p : Phase) → is_doomed p ≡ true → not (is_husk p) ≡ true
doomed_stands phase.Made h = absurd cc
doomed_stands phase.Live h = absurd cc
doomed_stands phase.Doomed h = refl
doomed_stands phase.Husk h = absurd cc

removing_not_fresh : (s : Option File) → is_removing (phase_in s) ≡ true → is_fresh (phase_in (option_map dissociated s)) ≡ false
removing_not_fresh None h = absurd cc
removing_not_fresh (Some x) h = refl

dissociated_not_fresh : (s : Option File) → is_fresh (phase_in s) ≡ false → is_fresh (phase_in (option_map dissociated s)) ≡ false
dissociated_not_fresh None h = h
dissociated_not_fresh (Some x) h = refl

not_false : (b : Bool) → not b ≡ true → b ≡ false
not_false true h = absurd cc
not_false false h = refl

none_standing : (m : State) (f : ℕ) (x : Object) → not (has_standing m f) ≡ true → IsIn x m.objects → x.file ≡ f → is_doomed x.phase ≡ true → ⊥
none_standing m f x none k e doomed =
    let no : is_standing_in f x ≡ false = fails_any (is_standing_in f) x m.objects (not_false (has_standing m f) none) k in
    let is : is_standing_in f x ≡ true = both_true (eq-eqb x.file f e) (doomed_stands x.phase doomed) in
    cc

dissociated_go : (m : State) (f : ℕ) → Reached m → is_removing (phase_of m f) ≡ true → not (has_standing m f) ≡ true → FilesGo m (with_file m f dissociated)
dissociated_go m f r removing none =
    let m' = with_file m f dissociated in
    let here : IsLeft m' f = record {
      opened = ap is_fresh (phase_of-here m f dissociated) ∙ removing_not_fresh (slice_get m.files f) removing;
      gone = ap (is_unplugged m) (device_of-kept m f dissociated (λ x. refl) f) ∙ r.removing f removing;
    } in
    record {
      calls = refl;
      objects = refl;
      made = refl;
      count = length-at_place m.files f dissociated ∙ r.files;
      ending = λ x k h swept. swept_other m f dissociated x.file (λ e. none_standing m f x none k (sym e) h) swept;
      husks = λ x k h swept. by_file f x.file (λ i. (may_sweep m' i ≡ true) ⊎ IsLeft m' i)
          (λ e. inr (let P : ℕ → Type 0 = λ i. IsLeft m' i in subst P e here))
          (λ ne. inl (swept_other m f dissociated x.file ne swept));
      left = λ k l. by_file f k (λ i. IsLeft m' i)
          (λ e. (let P : ℕ → Type 0 = λ i. IsLeft m' i in subst P e here))
          (λ ne. left_other m f dissociated k ne l);
      removing = λ k.
          by_file f k (λ i. is_removing (phase_of m' i) ≡ true → is_unplugged m' (device_of m' i) ≡ true)
          (λ e h. absurd (not_removing dissociated (λ x. refl) (slice_get m.files f) (sym (ap is_removing (phase_of-here m f dissociated)) ∙ ap (λ i. is_removing (phase_of m' i)) e ∙ h)))
          (λ ne h. removing_other m f dissociated r k ne h);
    }

-- Unplug.

pulled_by : (s : Option Bool) → not (unwrap_or s false) ≡ true → not (unwrap_or (option_map without_plug s) false) ≡ true
pulled_by None h = h
pulled_by (Some b) h = refl

pulled_stays : (m : State) (d k : ℕ) → is_unplugged m k ≡ true → is_unplugged (after_unplug m d) k ≡ true
pulled_stays m d k h =
    ⊎_elim
    (λ e. (
    let here : not (unwrap_or (slice_get m.plugged d) false) ≡ true = ap (is_unplugged m) e.1 ∙ h in
    ap (is_unplugged (after_unplug m d)) (sym e.1) ∙ ap (λ s. not (unwrap_or s false)) (slice_get-at_place_same m.plugged d without_plug) ∙ pulled_by (slice_get m.plugged d) here))
    (λ e. (ap (λ s. not (unwrap_or s false)) (slice_get-at_place_elsewhere m.plugged d k without_plug e.1) ∙ h))
    (eqb_tells d k)

pulled_go : (m : State) (d : ℕ) → Reached m → FilesGo m (after_unplug m d)
pulled_go m d r = record {
  calls = refl;
  objects = refl;
  made = refl;
  count = r.files;
  ending = λ x k h swept. swept;
  husks = λ x k h swept. inl swept;
  left = λ k l. record { opened = l.opened; gone = pulled_stays m d (device_of m k) l.gone };
  removing = λ k h. pulled_stays m d (device_of m k) (r.removing k h);
}

-- Enter.

tearing_not_callable : (p : FilePhase) → is_callable p ≡ true → is_tearing p ≡ true → ⊥
tearing_not_callable file.Fresh h t = cc
tearing_not_callable file.Open h t = cc
tearing_not_callable (file.Tearing by) h t = cc
tearing_not_callable file.Dissociated h t = cc
tearing_not_callable file.Closed h t = cc

pub put_is : (call k : InFlight) (s : Option (Option InFlight)) → the_call (option_map (put_call call) s) ≡ Some k → call ≡ k
put_is call k None e = absurd (none-some k e)
put_is call k (Some s) e = same_Some call k e

entered_looks : (f : ℕ) (request : Request) (o : ℕ) → looks_at o (entered f request) ≡ false
entered_looks f request o = refl

module _ (m : State) (c f : ℕ) (request : Request) (r : Reached m) (idle : call_of m c ≡ None) (callable : is_callable (phase_of m f) ≡ true) where
  pub new_or_old : (b : ℕ) (k : InFlight) → call_of (record m { calls = at_place m.calls c (put_call (entered f request)) }) b ≡ Some k → ((c ≡ b) × (entered f request ≡ k)) ⊎ ((c ≢ b) × (call_of m b ≡ Some k))
  new_or_old b k is =
      ⊎_elim
      (λ e. inl (e.1, put_is (entered f request) k (slice_get m.calls c) (sym (ap the_call (slice_get-at_place_same m.calls c (put_call (entered f request)))) ∙ ap (λ i. the_call (slice_get (at_place m.calls c (put_call (entered f request))) i)) e.1 ∙ is)))
      (λ e. inr (e.1, sym (ap the_call (slice_get-at_place_elsewhere m.calls c b (put_call (entered f request)) e.1)) ∙ is))
      (eqb_tells c b)

  swept_entered : (k : ℕ) → may_sweep m k ≡ true → may_sweep (record m { calls = at_place m.calls c (put_call (entered f request)) }) k ≡ true
  swept_entered k swept =
      let parts = and_parts (is_tearing (phase_of m k)) (is_quiet m k) swept in
      let apart : f ≢ k = λ e. tearing_not_callable (phase_of m f) callable (ap (λ i. is_tearing (phase_of m i)) e ∙ parts.0) in
      both_true parts.0 (quiet_stays m (record m { calls = at_place m.calls c (put_call (entered f request)) }) c k (put_call (entered f request)) refl (λ x at on. absurd (apart (eqb-true f k on))) parts.1)

  entered_well : HoldsWell m.made m.objects (entered f request)
  entered_well = record {
    looked = λ o h. absurd (let no = entered_looks f request o in cc);
    locked = λ o h. absurd (none-some o h);
    placed = λ o h. absurd (none-some o h);
    suits = λ early. tt;
  }

  held_entered : (w : Word) (x : Object) → IsHeldFor m w x → IsHeldFor (record m { calls = at_place m.calls c (put_call (entered f request)) }) w x
  held_entered w x h =
      held_stays m (record m { calls = at_place m.calls c (put_call (entered f request)) }) c (put_call (entered f request)) refl w x (λ k is word own. none-some k (sym idle ∙ is)) h

  pub Reached-entered : Reached (record m { calls = at_place m.calls c (put_call (entered f request)) })
  Reached-entered = record {
    files = r.files;
    calls = length-at_place m.calls c (put_call (entered f request)) ∙ r.calls;
    phased = λ b k is. ⊎_elim (λ new. (let P : InFlight → Type 0 = λ v. IsPhased v in subst P new.1 (IsPhased-entered f request))) (λ old. r.phased b k old.1) (new_or_old b k is);
    graph = r.graph;
    holds_well = λ b k is. ⊎_elim (λ new. (let P : InFlight → Type 0 = λ v. HoldsWell m.made m.objects v in subst P new.1 entered_well)) (λ old. r.holds_well b k old.1) (new_or_old b k is);
    alone = λ a b j k o is is' ne e.
        ⊎_elim
        (λ new. absurd (none-some o (ap (λ (v : InFlight). v.locked) new.1 ∙ e)))
        (λ old. ⊎_elim (λ new. ap (λ (v : InFlight). holds o (Some v)) (sym new.1)) (λ old'. r.alone a b j k o old.1 old'.1 ne e) (new_or_old b k is'))
        (new_or_old a j is);
    making = λ x k h. held_entered Commit x (r.making x k h);
    ending = λ x k h. ⊎_elim (λ held. inl (held_entered Finish x held)) (λ swept. inr (swept_entered x.file swept)) (r.ending x k h);
    husks = λ x k h. ⊎_elim (λ swept. inl (swept_entered x.file swept)) (λ l. inr (record { opened = l.opened; gone = l.gone })) (r.husks x k h);
    removing = r.removing;
  }

-- Kill.

-- the object that a Kill or a Gone names, which is of a file that is being swept
pub record IsSweptObject (m : State) (o : ℕ) : Type 0 where
  pub item : Object
  pub within : IsIn item m.objects
  pub id : item.id ≡ o
  pub swept : may_sweep m item.file ≡ true

named : (m : State) (o : ℕ) (x : Object) → object_with m o ≡ Some x → may_sweep m x.file ≡ true → IsSweptObject m o
named m o x e swept =
    let p = Passes-find (has_id o) x m.objects e in
    record { item = x; within = p.within; id = eqb-true x.id o p.test; swept = swept }

killed_by : (m : State) (o : ℕ) (slot : Option Object) → object_with m o ≡ slot → may_kill_object m o slot ≡ true → IsSweptObject m o
killed_by m o None e may = absurd cc
killed_by m o (Some x) e may = named m o x e (and_parts (may_sweep m x.file) (not (has_doomed m x.file) && is_object o (newest_free m x.file)) may).0

pub killed_swept : (m : State) (o : ℕ) → may_kill m o ≡ true → IsSweptObject m o
killed_swept m o may = killed_by m o (object_with m o) refl may

-- a change of an object of a swept file, which no call looks at
module _ (m : State) (r : Reached m) (o : ℕ) (s : IsSweptObject m o) (change : Change) where
  carries_swept : (b : ℕ) (k : InFlight) → call_of m b ≡ Some k → (u : ℕ) → CarriesIn m.objects (map (on_object o change) m.objects) k.file u
  carries_swept b k is u a suits =
      carries_change m.objects u o change
      (λ e. absurd (
      let suit = suits s.item s.within (s.id ∙ sym e) in
      quiet_none m b s.item.file k (and_parts (is_tearing (phase_of m s.item.file)) (is_quiet m s.item.file) s.swept).1 is (sym suit.same)))
      k.file a suits

  placed_changed : (k : InFlight) → HoldsWell m.made m.objects k → (u : ℕ) → k.locked ≡ Some u → (y : Object) → IsIn y (map (on_object o change) m.objects) → y.id ≡ u → y.file ≡ k.file
  placed_changed k old u locked y h e =
      let from = IsIn-map (on_object o change) y m.objects h in
      let x = from.item in
      ap (λ (v : Object). v.file) from.gives ∙ on_object-file o change x ∙ old.placed u locked x from.within (sym (on_object-id o change x) ∙ sym (ap (λ (v : Object). v.id) from.gives) ∙ e)

  swept_holds : (b : ℕ) (k : InFlight) → call_of m b ≡ Some k → HoldsWell m.made (map (on_object o change) m.objects) k
  swept_holds b k is =
      let old = r.holds_well b k is in
      record {
        looked = old.looked;
        locked = old.locked;
        placed = placed_changed k old;
        suits = λ early. all_carry_in m.objects (map (on_object o change) m.objects) k.file (ids_of k.looked) (looks_of k.request) (λ u h. carries_swept b k is u) (old.suits early);
      }

  making_swept : (m' : State) → m'.calls ≡ m.calls → (y : Object) → IsIn y (map (on_object o change) m.objects) → is_made y.phase ≡ true → IsHeldFor m' Commit y
  making_swept m' calls y k h =
      let from = IsIn-map (on_object o change) y m.objects k in
      let x = from.item in
      let made : is_made x.phase ≡ true = on_object-made o change x (sym (ap (λ (z : Object). is_made z.phase) from.gives) ∙ h) in
      held_as m' Commit x y (ap (λ (z : Object). z.id) from.gives ∙ on_object-id o change x) (ap (λ (z : Object). z.file) from.gives ∙ on_object-file o change x) (held_alike m m' Commit x calls (r.making x from.within made))

  -- what is so of the file of the object named
  swept_named : (x : Object) → IsIn x m.objects → x.id ≡ o → may_sweep m x.file ≡ true
  swept_named x k e = ap (λ (v : Object). may_sweep m v.file) (same_object m r x s.item k s.within (e ∙ sym s.id)) ∙ s.swept

ending_as : (m m' : State) (x y : Object) → y.id ≡ x.id → y.file ≡ x.file → m'.calls ≡ m.calls → ((f : ℕ) → may_sweep m' f ≡ may_sweep m f) → IsHeldFor m Finish x ⊎ (may_sweep m x.file ≡ true) → IsHeldFor m' Finish y ⊎ (may_sweep m' y.file ≡ true)
ending_as m m' x y id file calls swept (inl h) = inl (held_as m' Finish x y id file (held_alike m m' Finish x calls h))
ending_as m m' x y id file calls swept (inr h) = inr (swept y.file ∙ ap (may_sweep m) file ∙ h)

husk_as : (m m' : State) (x y : Object) → y.file ≡ x.file → ((f : ℕ) → may_sweep m' f ≡ may_sweep m f) → ((f : ℕ) → IsLeft m f → IsLeft m' f) → (may_sweep m x.file ≡ true) ⊎ IsLeft m x.file → (may_sweep m' y.file ≡ true) ⊎ IsLeft m' y.file
husk_as m m' x y file swept left (inl h) = inl (swept y.file ∙ ap (may_sweep m) file ∙ h)
husk_as m m' x y file swept left (inr h) = inr (let P : ℕ → Type 0 = λ f. IsLeft m' f in subst P (sym file) (left x.file h))

pub Reached-kill : (m : State) (o : ℕ) → Reached m → IsSweptObject m o → Reached (with_object m o ToDoomed)
Reached-kill m o r s =
    let m' = with_object m o ToDoomed in
    record {
      files = r.files;
      calls = r.calls;
      phased = r.phased;
      graph = IsGraph-map m.made o ToDoomed m.objects r.graph (gains_doomed m.made o m.objects);
      holds_well = swept_holds m r o s ToDoomed;
      alone = r.alone;
      making = making_swept m r o s ToDoomed m' refl;
      ending = λ y k h. (
          let from = IsIn-map (on_object o ToDoomed) y m.objects k in
          let x = from.item in
          let doomed : is_doomed (on_object o ToDoomed x).phase ≡ true = sym (ap (λ (z : Object). is_doomed z.phase) from.gives) ∙ h in
          ending_as m m' x y (ap (λ (z : Object). z.id) from.gives ∙ on_object-id o ToDoomed x) (ap (λ (z : Object). z.file) from.gives ∙ on_object-file o ToDoomed x) refl (λ f. refl)
          (⊎_elim (λ e. inr (swept_named m r o s ToDoomed x from.within e)) (λ old. r.ending x from.within old) (doomed-doomed o x doomed)));
      husks = λ y k h. (
          let from = IsIn-map (on_object o ToDoomed) y m.objects k in
          let x = from.item in
          husk_as m m' x y (ap (λ (z : Object). z.file) from.gives ∙ on_object-file o ToDoomed x) (λ f. refl) (λ f l. record { opened = l.opened; gone = l.gone })
          (r.husks x from.within (doomed-husk o x (sym (ap (λ (z : Object). is_husk z.phase) from.gives) ∙ h))));
      removing = r.removing;
    }

-- Gone.

pub gone_by : (m : State) (o : ℕ) (x : Object) → object_with m o ≡ Some x → may_go_object m (Some x) ≡ true → IsSweptObject m o
gone_by m o x e may = named m o x e (and_parts (is_doomed x.phase) (may_sweep m x.file) may).1

Reached-husk : (m : State) (o : ℕ) (x : Object) → Reached m → IsSweptObject m o → Reached (with_burial (with_object m o ToHusk) x)
Reached-husk m o b r s =
    let m' = with_burial (with_object m o ToHusk) b in
    record {
      files = r.files;
      calls = r.calls;
      phased = r.phased;
      graph = IsGraph-map m.made o ToHusk m.objects r.graph (gains_husk m.made o m.objects);
      holds_well = swept_holds m r o s ToHusk;
      alone = r.alone;
      making = making_swept m r o s ToHusk m' refl;
      ending = λ y k h. (
          let from = IsIn-map (on_object o ToHusk) y m.objects k in
          let x = from.item in
          let doomed = husk-doomed o x (sym (ap (λ (z : Object). is_doomed z.phase) from.gives) ∙ h) in
          ending_as m m' x y (ap (λ (z : Object). z.id) from.gives ∙ on_object-id o ToHusk x) (ap (λ (z : Object). z.file) from.gives ∙ on_object-file o ToHusk x) refl (λ f. refl) (r.ending x from.within doomed.1));
      husks = λ y k h. (
          let from = IsIn-map (on_object o ToHusk) y m.objects k in
          let x = from.item in
          husk_as m m' x y (ap (λ (z : Object). z.file) from.gives ∙ on_object-file o ToHusk x) (λ f. refl) (λ f l. record { opened = l.opened; gone = l.gone })
          (⊎_elim (λ e. inl (swept_named m r o s ToHusk x from.within e)) (λ old. r.husks x from.within old) (husk-husk o x (sym (ap (λ (z : Object). is_husk z.phase) from.gives) ∙ h))));
      removing = r.removing;
    }

pub Reached-gone : (m : State) (o : ℕ) (slot : Option Object) → object_with m o ≡ slot → may_go_object m slot ≡ true → Reached m → Reached (gone_from m o slot)
Reached-gone m o None e may r = absurd cc
Reached-gone m o (Some x) e may r = Reached-husk m o x r (gone_by m o x e may)

-- Closed.

not_in_file-apart : (f : ℕ) (x : Object) → not_in_file f x ≡ true → f ≢ x.file
not_in_file-apart f x h e = let a : (x.file == f) ≡ true = eq-eqb x.file f (sym e) in let b : not_in_file f x ≡ false = ap not a in cc

pub Reached-closed : (m : State) (f : ℕ) → Reached m → Reached (after_closed m f)
Reached-closed m f r =
    let m' = after_closed m f in
    let g = in_phase file.Closed in
    record {
      files = length-at_place m.files f g ∙ r.files;
      calls = r.calls;
      phased = r.phased;
      graph = IsGraph-filter m.made (not_in_file f) m.objects r.graph;
      holds_well = λ b k is. (
          let old = r.holds_well b k is in
          record {
            looked = old.looked;
            locked = old.locked;
            placed = λ o locked y h e. old.placed o locked y (Passes-filter (not_in_file f) y m.objects h).within e;
            suits = λ early. all_carry m.objects (filter (not_in_file f) m.objects) k.file (ids_of k.looked) (looks_of k.request) (λ o h. carries_filter m.objects o (not_in_file f)) (old.suits early);
          });
      alone = r.alone;
      making = λ x k h. held_alike m m' Commit x refl (r.making x (Passes-filter (not_in_file f) x m.objects k).within h);
      ending = λ x k h. (
          let p = Passes-filter (not_in_file f) x m.objects k in
          ⊎_elim (λ held. inl (held_alike m m' Finish x refl held)) (λ swept. inr (swept_other m f g x.file (not_in_file-apart f x p.test) swept)) (r.ending x p.within h));
      husks = λ x k h. (
          let p = Passes-filter (not_in_file f) x m.objects k in
          let l = left_other m f g x.file (not_in_file-apart f x p.test) in
          ⊎_elim (λ swept. inl (swept_other m f g x.file (not_in_file-apart f x p.test) swept)) (λ old. inr (let n = l old in record { opened = n.opened; gone = n.gone })) (r.husks x p.within h));
      removing = λ k.
          by_file f k (λ i. is_removing (phase_of m' i) ≡ true → is_unplugged m' (device_of m' i) ≡ true)
          (λ e h. absurd (not_removing g (λ x. refl) (slice_get m.files f) (sym (ap is_removing (phase_of-here m f g)) ∙ ap (λ i. is_removing (phase_of m' i)) e ∙ h)))
          (λ ne h. removing_other m f g r k ne h);
    }

-- Every entry.

Reached-unless_answered : (m m' : State) (e : Option Errno) → Reached m → (e ≡ None → Reached m') → Reached (unless_answered m e m')
Reached-unless_answered m m' None r r' = r' refl
Reached-unless_answered m m' (Some e) r r' = r

was_fresh : (fresh : Bool) (rest : Option Errno) (a : Answer) → MayAnswer (if not fresh then Some Inval else rest) a → refusal_in a ≡ None → fresh ≡ true
was_fresh true rest a h e = refl
was_fresh false rest a h e = absurd (none-some Inval (sym e ∙ ap refusal_in h))

pub was_callable : (callable : Bool) (rest : Option Errno) (a : Answer) → MayAnswer (if not callable then Some BadF else rest) a → refusal_in a ≡ None → callable ≡ true
was_callable true rest a h e = refl
was_callable false rest a h e = absurd (none-some BadF (sym e ∙ ap refusal_in h))

pub Reached-after : (m : State) (e : Entry) → Allowed m e → Reached m → Reached (after m e)
Reached-after m (Open c f d a) allowed r =
    Reached-unless_answered m (with_file m f (opened c d)) (refusal_in a) r
    (λ e. Reached-files m (with_file m f (opened c d)) r (opened_go m c f d r (was_fresh (is_fresh (phase_of m f)) _ a allowed.3 e)))
Reached-after m (Enter c f request a) allowed r =
    Reached-unless_answered m _ (refusal_in a) r (λ e. Reached-entered m c f request r allowed.2 (was_callable (is_callable (phase_of m f)) _ a allowed.3 e))
Reached-after m (Step c w o found a) allowed r =
    let t = IsTurn-allowed m c w o found a allowed in
    Reached-turn m r c t.call t.is a (after m (Step c w o found a)) t.turn
Reached-after m (Unplug d) allowed r = Reached-files m (after_unplug m d) r (pulled_go m d r)
Reached-after m (Tear f by) allowed r = Reached-files m (with_file m f (in_phase (file.Tearing by))) r (torn_go m f by r allowed.2)
Reached-after m (Kill o) allowed r = Reached-kill m o r (killed_swept m o allowed)
Reached-after m (Gone o kept) allowed r = Reached-gone m o (object_with m o) refl allowed r
Reached-after m (Dissociated f) allowed r =
    let parts = and_parts (is_removing (phase_of m f)) (is_quiet m f && not (has_standing m f)) allowed.1 in
    Reached-files m (with_file m f dissociated) r (dissociated_go m f r parts.0 (and_parts (is_quiet m f) (not (has_standing m f)) parts.1).1)
Reached-after m (Closed f) allowed r = Reached-closed m f r

Reached-state_from : (m : State) (h : List Entry) → Reached m → IsLegalFrom m h → Reached (state_from m h)
Reached-state_from m [] r legal = r
Reached-state_from m (e ∷ h) r legal = Reached-state_from (after m e) h (Reached-after m e legal.0 r) legal.1

-- a legal history leads to a reached state
pub Reached-state_of : (h : List Entry) → IsLegal h → Reached (state_of h)
Reached-state_of h legal = Reached-state_from start h Reached-start legal
