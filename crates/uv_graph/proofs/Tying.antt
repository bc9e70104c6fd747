-- What an entry that leaves the deeds keeps of a graph.
use Rattle.std.proofs.Common.{IsSome, ◌≡◌, ℕ, ◌≤◌, false, List, [], ◌∷◌, ◌++◌, Option, Some, None, length, refl, ap, sym, ◌∙◌, subst, arith, inl, inr, ⊎_elim}
use Rattle.std.specs.Prelude.{◌==◌, sum, slice_get, option_map}
use Rattle.std.proofs.lemmas.Option.{none-some}
use Rattle.std.proofs.lemmas.Bool.{ne_eqb}
use Rattle.uv_num.specs.declared.errno.Errno.{Errno}
use Rattle.uv_num.specs.declared.identity.Identity.{Identity}
use Rattle.uv_pool.specs.Homes.{Homes}
use Rattle.uv_machine.specs.declared.entry.Entry.{Entry}
use Rattle.uv_machine.specs.declared.entry.Entry.TheVariants.{Open, Enter, Step, Unplug, Tear, Kill, Gone, Dissociated, Closed}
use Rattle.uv_machine.specs.declared.entry.Word.{Word}
use Rattle.uv_machine.specs.declared.entry.Word.TheVariants.{Reserve, Look, Make, Commit, Act, Lock, Check, Finish, Abort, Free, Exit}
use Rattle.uv_machine.specs.declared.object.Object.{Object}
use Rattle.uv_machine.specs.declared.pool.Pool.{Pool}
use Rattle.uv_machine.specs.declared.state.State.{State}
use Rattle.uv_machine.specs.States.{call_of, object_with, start}
use Rattle.uv_machine.specs.Effects.{refusal_in}
use Rattle.uv_machine.specs.Histories.{Allowed, after, state_of, state_from, IsLegal}
use Rattle.uv_machine.specs.Reached.{cell_in}
use Rattle.uv_machine.specs.Laws.{is_of}
use Rattle.uv_machine.proofs.Reaching.{Reached-state_of}
use Rattle.uv_machine.specs.Made.{made_by, step_made, new_by}
use Rattle.uv_graph.specs.declared.out.Out.{Out}
use Rattle.uv_pool.specs.Deeds.{DeedFacts}
use Rattle.uv_graph.specs.Dooms.{DoomsNone}
use Rattle.uv_graph.specs.Kept.{Kept, the_out, out_of, kill_of}
use Rattle.uv_graph.specs.Lives.{life_in, lives_from, lives_in}
use Rattle.uv_machine.specs.Logged.{Logged}
use Rattle.uv_graph.specs.Notes.{Leaves, WordLeaves, HasNoneOut}
use Rattle.uv_graph.specs.Seats.{holder_of, Seat, seat_in, seat_of, slot_of, deed_in, seat_place, IsPlaced, IsHeldOrAway, IsAway, IsPoolFor, HasOut, HasKill, AreHandedOut, IsTied}
use Rattle.uv_graph.proofs.Dooming.{handed_after}
use Rattle.uv_graph.proofs.Going.{HasOut-after, HasKill-after, releases_it}
use Rattle.uv_graph.proofs.MachineLaws.{state_goes_on}
use Rattle.uv_graph.proofs.Seating.{seats_after}

-- Lives.

append_nested : {X : Type 0} (xs ys zs : List X) → (xs ++ ys) ++ zs ≡ xs ++ (ys ++ zs)
append_nested [] ys zs = refl
append_nested (x ∷ xs) ys zs = ap (λ v. x ∷ v) (append_nested xs ys zs)

pub append_none : {X : Type 0} (xs : List X) → xs ++ [] ≡ xs
append_none [] = refl
append_none (x ∷ xs) = ap (λ v. x ∷ v) (append_none xs)

lives_from-snoc : (m : State) (k i : ℕ) (h : List Entry) (e : Entry) → lives_from m k i (h ++ e ∷ []) ≡ lives_from m k i h ++ life_in k i (new_by (state_from m h) e)
lives_from-snoc m k i [] e = append_none (life_in k i (new_by m e))
lives_from-snoc m k i (x ∷ h) e =
    ap (λ v. life_in k i (new_by m x) ++ v) (lives_from-snoc (after m x) k i h e)
    ∙ sym (append_nested (life_in k i (new_by m x)) (lives_from (after m x) k i h) (life_in k i (new_by (state_from (after m x) h) e)))

-- a history that goes on adds the life that its entry begins
pub lives_go_on : (h : List Entry) (e : Entry) (k i : ℕ) → lives_in (h ++ e ∷ []) k i ≡ lives_in h k i ++ life_in k i (new_by (state_of h) e)
lives_go_on h e k i = lives_from-snoc start k i h e

made_refused : (e : Option Errno) (x : Option Object) → IsSome e → made_by e x ≡ None
made_refused None x some = absurd cc
made_refused (Some e) x some = refl

none_made : (w : Word) (e : Option Errno) (x y : Option Object) → WordLeaves w e y → step_made w e x ≡ None
none_made Reserve e x y leaves = refl
none_made Look e x y leaves = refl
none_made Make e x y leaves = made_refused e x leaves
none_made Commit e x y leaves = refl
none_made Act e x y leaves = refl
none_made Lock e x y leaves = refl
none_made Check e x y leaves = refl
none_made Finish e x y leaves = refl
none_made Abort e x y leaves = refl
none_made Free e x y leaves = refl
none_made Exit e x y leaves = refl

pub none_new : (m : State) (e : Entry) → Leaves m e → new_by m e ≡ None
none_new m (Open c f d a) leaves = refl
none_new m (Enter c f request a) leaves = refl
none_new m (Step c w o found a) leaves = none_made w (refusal_in a) _ (object_with m o) leaves
none_new m (Unplug d) leaves = refl
none_new m (Tear f by) leaves = refl
none_new m (Kill o) leaves = refl
none_new m (Gone o kept) leaves = refl
none_new m (Dissociated f) leaves = refl
none_new m (Closed f) leaves = refl

-- Cells.

pub seat_eq : (m m' : State) (h h' : List Entry) (k i : ℕ) → cell_in (slice_get m'.pools k) i ≡ cell_in (slice_get m.pools k) i → (seat_in m' h' k i).holder ≡ (seat_in m h k i).holder → lives_in h' k i ≡ lives_in h k i → seat_in m' h' k i ≡ seat_in m h k i
seat_eq m m' h h' k i cells holders lives =
    ap (λ c. record { cell = c; holder = (seat_in m' h' k i).holder; lives = lives_in h' k i }) cells
    ∙ ap (λ v. record { cell = (seat_in m h k i).cell; holder = v; lives = lives_in h' k i }) holders
    ∙ ap (λ l. record { cell = (seat_in m h k i).cell; holder = (seat_in m h k i).holder; lives = l }) lives

pub seat_stays : (h : List Entry) (e : Entry) → IsLegal h → Allowed (state_of h) e → Leaves (state_of h) e → (k i : ℕ) → seat_of (h ++ e ∷ []) k i ≡ seat_of h k i
seat_stays h e legal allowed leaves k i =
    let m = state_of h in
    let s = seats_after m e (Reached-state_of h legal) allowed leaves in
    let P : State → Type 0 = λ n. seat_in n (h ++ e ∷ []) k i ≡ seat_of h k i in
    let lives : lives_in (h ++ e ∷ []) k i ≡ lives_in h k i = lives_go_on h e k i ∙ ap (λ x. lives_in h k i ++ life_in k i x) (none_new m e leaves) ∙ append_none (lives_in h k i) in
    subst P (sym (state_goes_on h e)) (seat_eq m (after m e) h (h ++ e ∷ []) k i (ap (λ v. cell_in (slice_get v k) i) s.pools) (ap (λ ls. holder_of ls (after m e).objects k i) lives ∙ s.holders (lives_in h k i) k i) lives)

-- The deeds that are out.

pub not_releases : (m : State) (e : Entry) (o : ℕ) → Leaves m e → releases_it o e ≡ false
not_releases m (Open c f d a) o leaves = refl
not_releases m (Enter c f request a) o leaves = refl
not_releases m (Step c w i found a) o leaves = refl
not_releases m (Unplug d) o leaves = refl
not_releases m (Tear f by) o leaves = refl
not_releases m (Kill i) o leaves = refl
not_releases m (Gone i kept) o leaves = absurd leaves
not_releases m (Dissociated f) o leaves = refl
not_releases m (Closed f) o leaves = refl

not_own_by : (b c : ℕ) → (b ≡ c → ⊥) → (b == c) ≡ false
not_own_by b c apart = ne_eqb b c apart

-- whose call has a deed out makes no entry now
not_own : (k : Kept) (m : State) (e : Entry) (c : ℕ) (out : Out) → Allowed m e → HasNoneOut k e → HasOut m c out → out_of k c ≡ Some out → is_of c e ≡ false
not_own k m (Open b f d a) c out allowed none h is = refl
not_own k m (Enter b f request a) c out allowed none h is =
    ne_eqb b c (λ same. none-some h.call (sym allowed.2 ∙ ap (call_of m) same ∙ h.is))
not_own k m (Step b w o found a) c out allowed none h is = ne_eqb b c (λ same. none-some out (sym none ∙ ap (out_of k) same ∙ is))
not_own k m (Unplug d) c out allowed none h is = refl
not_own k m (Tear f by) c out allowed none h is = refl
not_own k m (Kill o) c out allowed none h is = refl
not_own k m (Gone o kept) c out allowed none h is = refl
not_own k m (Dissociated f) c out allowed none h is = refl
not_own k m (Closed f) c out allowed none h is = refl

-- The whole.

pub away_as : (k k' : Kept) (n i o : ℕ) → k'.outs ≡ k.outs → k'.kills ≡ k.kills → IsAway k n i o → IsAway k' n i o
away_as k k' n i o outs kills a = record {
  actor = a.actor;
  out = a.out;
  named = ⊎_elim (λ e. inl (ap (λ v. the_out (slice_get v a.actor)) outs ∙ e)) (λ e. inr (ap (λ v. the_out (slice_get v a.actor)) kills ∙ e)) a.named;
  kind = a.kind;
  index = a.index;
  object = a.object;
}

held_as : (k k' : Kept) (q : Option DeedFacts) (n i : ℕ) (s : Seat) (holder : Identity) → k'.outs ≡ k.outs → k'.kills ≡ k.kills → IsHeldOrAway k q n i s holder → IsHeldOrAway k' q n i s holder
held_as k k' None n i s holder outs kills h = away_as k k' n i holder.id outs kills h
held_as k k' (Some t) n i s holder outs kills h = h

placed_as : (k k' : Kept) (p q : Option DeedFacts) (n i : ℕ) (s : Seat) (holder : Option Identity) → k'.outs ≡ k.outs → k'.kills ≡ k.kills → IsPlaced k p q n i s holder → IsPlaced k' p q n i s holder
placed_as k k' p q n i s None outs kills h = h
placed_as k k' p q n i s (Some holder) outs kills h = (h.0, held_as k k' q n i s holder outs kills h.1)

pub out_now : (h g : List Entry) (e : Entry) (c : ℕ) (out : Out) → g ≡ h ++ e ∷ [] → HasOut (after (state_of h) e) c out → HasOut (state_of g) c out
out_now h g e c out more o = let P : State → Type 0 = λ s. HasOut s c out in subst P (sym (ap state_of more ∙ state_goes_on h e)) o

pub kill_now : (h g : List Entry) (e : Entry) (c : ℕ) (out : Out) → g ≡ h ++ e ∷ [] → HasKill (after (state_of h) e) c out → HasKill (state_of g) c out
kill_now h g e c out more o = let P : State → Type 0 = λ s. HasKill s c out in subst P (sym (ap state_of more ∙ state_goes_on h e)) o

-- with another log and other room set aside, the deeds and what is out being as they were
pub tied_more : {D : Type 0} (tell : D → DeedFacts) (log log' : Logged) (k k' : Kept) (pools : List (Homes D)) (held : List (Option D)) (e : Entry)
    → IsTied tell log k pools held → Allowed (state_of log.history) e → Leaves (state_of log.history) e → HasNoneOut k e → DoomsNone (state_of log.history) e
    → log'.history ≡ log.history ++ e ∷ [] → IsLegal log'.history → k'.history ≡ log'.history → k'.outs ≡ k.outs → k'.kills ≡ k.kills → sum k'.spares ≤ log'.spare
    → IsTied tell log' k' pools held
tied_more {D} tell log log' k k' pools held e t allowed leaves none dooms more legal history outs kills covered =
    let h = log.history in
    let m = state_of h in
    let r = Reached-state_of h t.legal in
    let now : state_of log'.history ≡ after m e = ap state_of more ∙ state_goes_on h e in
    let same = seats_after m e r allowed leaves in
    record {
      history = history;
      legal = legal;
      covered = covered;
      seats = t.seats;
      kinds = t.kinds;
      outs_size = ap (λ v. length v) outs ∙ t.outs_size;
      kills_size = ap (λ v. length v) kills ∙ t.kills_size;
      pools_are = λ n pool is. (
          let P : List Pool → Type 0 = λ v. IsPoolFor n (slice_get v n) pool in
          subst P (sym (ap (λ (s : State). s.pools) now ∙ same.pools)) (t.pools_are n pool is));
      placed = λ n i nn ii. (
          let P : Seat → Type 0 = λ s. IsPlaced k' (option_map tell (deed_in (slice_get pools n) i)) (option_map tell (slot_of (slice_get held (seat_place n i)))) n i s s.holder in
          let stays : seat_of log'.history n i ≡ seat_of h n i = ap (λ v. seat_of v n i) more ∙ seat_stays h e t.legal allowed leaves n i in
          subst P (sym stays) (placed_as k k' _ _ n i (seat_of h n i) (seat_of h n i).holder outs kills (t.placed n i nn ii)));
      outs = λ c out is. (
          let before : out_of k c ≡ Some out = sym (ap (λ v. the_out (slice_get v c)) outs) ∙ is in
          let o = t.outs c out before in
          out_now h log'.history e c out more (HasOut-after m e c out r allowed (not_own k m e c out allowed none o before) o));
      kills = λ b out is. (
          let before : kill_of k b ≡ Some out = sym (ap (λ v. the_out (slice_get v b)) kills) ∙ is in
          kill_now h log'.history e b out more (HasKill-after m e b out r allowed (not_releases m e out.identity.id leaves) (t.kills b out before)));
      handed = (let P : State → Type 0 = λ s. AreHandedOut k' s.objects in subst P (sym now) (λ x i d. away_as k k' _ _ _ outs kills (handed_after k m r t.handed e dooms x i d)));
    }

-- room that was widened
pub tied_wider : {D : Type 0} (tell : D → DeedFacts) (log log' : Logged) (k k' : Kept) (pools : List (Homes D)) (held : List (Option D))
    → IsTied tell log k pools held → log'.history ≡ log.history → log.spare ≤ log'.spare → k'.history ≡ log'.history → k'.spares ≡ k.spares → k'.outs ≡ k.outs → k'.kills ≡ k.kills
    → IsTied tell log' k' pools held
tied_wider {D} tell log log' k k' pools held t same wider history spares outs kills =
    let P : List Entry → Type 0 = λ v. IsLegal v in
    let kept : sum k'.spares ≡ sum k.spares = ap sum spares in
    record {
      history = history;
      legal = subst P (sym same) t.legal;
      covered = omega (arith, t.covered, wider, kept);
      seats = t.seats;
      kinds = t.kinds;
      outs_size = ap (λ v. length v) outs ∙ t.outs_size;
      kills_size = ap (λ v. length v) kills ∙ t.kills_size;
      pools_are = λ n pool is. (let Q : List Entry → Type 0 = λ v. IsPoolFor n (slice_get (state_of v).pools n) pool in subst Q (sym same) (t.pools_are n pool is));
      placed = λ n i nn ii. (
          let Q : List Entry → Type 0 = λ v. IsPlaced k' (option_map tell (deed_in (slice_get pools n) i)) (option_map tell (slot_of (slice_get held (seat_place n i)))) n i (seat_of v n i) (seat_of v n i).holder in
          subst Q (sym same) (placed_as k k' _ _ n i (seat_of log.history n i) (seat_of log.history n i).holder outs kills (t.placed n i nn ii)));
      outs = λ c out is. (let Q : List Entry → Type 0 = λ v. HasOut (state_of v) c out in subst Q (sym same) (t.outs c out (sym (ap (λ v. the_out (slice_get v c)) outs) ∙ is)));
      kills = λ b out is. (let Q : List Entry → Type 0 = λ v. HasKill (state_of v) b out in subst Q (sym same) (t.kills b out (sym (ap (λ v. the_out (slice_get v b)) kills) ∙ is)));
      handed = (let Q : List Entry → Type 0 = λ v. AreHandedOut k' (state_of v).objects in subst Q (sym same) (λ x i d. away_as k k' _ _ _ outs kills (t.handed x i d)));
    }
