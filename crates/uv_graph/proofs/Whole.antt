-- What is true of a graph stays true through each writer.
use Rattle.std.proofs.Common.{◌≡◌, ℕ, ◌*◌, ◌<◌, List, [], ◌∷◌, ◌++◌, Option, Some, None, length, ap, sym, ◌∙◌, subst, arith, ◌⊎◌, inl, inr, ⊎_elim}
use Rattle.std.specs.Prelude.{slice_get, unwrap_or}
use Rattle.std.proofs.lemmas.Option.{none-some, same_Some}
use Rattle.uv_num.specs.declared.ids.Ids.{Ids}
use Rattle.uv_num.specs.declared.limits.TheConstants.{CELLS, KINDS}
use Rattle.uv_num.specs.Kind.{kind_place}
use Rattle.uv_num.specs.Place.{at_place}
use Rattle.uv_pool.specs.Deeds.{DeedFacts}
use Rattle.uv_pool.specs.Homes.{Homes}
use Rattle.uv_machine.specs.declared.entry.Entry.{Entry}
use Rattle.uv_machine.specs.declared.object.Object.{Object}
use Rattle.uv_machine.specs.declared.state.State.{State}
use Rattle.uv_machine.specs.Objects.{no_ids}
use Rattle.uv_machine.specs.Histories.{Allowed, state_of}
use Rattle.uv_machine.specs.Logged.{Logged}
use Rattle.uv_machine.specs.Made.{new_by}
use Rattle.uv_graph.specs.declared.out.Out.{Out}
use Rattle.uv_graph.specs.Begins.{UsesNone}
use Rattle.uv_graph.specs.Hands.{out_in}
use Rattle.uv_graph.specs.Kept.{Kept, put_out}
use Rattle.uv_graph.specs.Lives.{last_uses, lives_in, life_in, uses_in}
use Rattle.uv_graph.specs.Seats.{IsTied, IsWhole, AreKnown, StoresUses, TearsOnce, seat_place}
use Rattle.uv_graph.proofs.Knowing.{IsNamed, IsTold, named_same, named_out, named_kill, known_after, stored_after}
use Rattle.uv_graph.proofs.Holders.{kind_within}
use Rattle.uv_graph.proofs.MachineLaws.{state_goes_on}
use Rattle.uv_graph.proofs.Tearing.{IsFreeToTear, once_after}
use Rattle.uv_graph.proofs.Tying.{lives_go_on, append_none}

-- what an object that stands used when it was made is what is stored for its cell
pub stored_is : (h : List Entry) (uses : List Ids) (x : Object) → x.index < CELLS → StoresUses uses h → unwrap_or (slice_get uses (seat_place (kind_place x.kind) x.index)) no_ids ≡ uses_in h x
stored_is h uses x low stored = ap (λ v. unwrap_or v no_ids) (stored (kind_place x.kind) x.index (kind_within x.kind) low)

-- what an object that stands goes out by is told by its cell
pub told_in : (h g : List Entry) (e : Entry) → g ≡ h ++ e ∷ [] → new_by (state_of h) e ≡ None → (x : Object) (out : Out) → Some (out_in h x) ≡ Some out → IsTold out g
told_in h g e more none x out is =
    let P : Out → Type 0 = λ v. IsTold v g in
    let same : lives_in g (kind_place x.kind) x.index ≡ lives_in h (kind_place x.kind) x.index =
    ap (λ v. lives_in v (kind_place x.kind) x.index) more ∙ lives_go_on h e (kind_place x.kind) x.index
    ∙ ap (λ y. lives_in h (kind_place x.kind) x.index ++ life_in (kind_place x.kind) x.index y) none ∙ append_none (lives_in h (kind_place x.kind) x.index) in
    subst P (same_Some (out_in h x) out is) (ap last_uses (sym same))

module _ {D : Type 0} (tell : D → DeedFacts) (log log' : Logged) (k k' : Kept) (pools pools' : List (Homes D)) (held held' : List (Option D)) (uses : List Ids)
    (w : IsWhole tell log k pools held uses) where
  -- no entry, and nothing that goes out
  pub whole_still : log'.history ≡ log.history → ((a : ℕ) (out : Out) → IsNamed k' a out → IsNamed k a out) → IsTied tell log' k' pools' held' → IsWhole tell log' k' pools' held' uses
  whole_still same from tied = record {
    tied = tied;
    once = (let P : List Entry → Type 0 = λ h. TearsOnce (state_of h) in subst P (sym same) w.once);
    known = (let P : List Entry → Type 0 = λ h. AreKnown k' h in subst P (sym same) (λ a out n. w.known a out (from a out n)));
    stored = (let P : List Entry → Type 0 = λ h. StoresUses uses h in subst P (sym same) w.stored);
  }

  module _ (e : Entry) (allowed : Allowed (state_of log.history) e) (free : IsFreeToTear (state_of log.history) e) (more : log'.history ≡ log.history ++ e ∷ []) (tied : IsTied tell log' k' pools' held') where
    pub whole_by : (uses' : List Ids) → StoresUses uses' log'.history → ((a : ℕ) (out : Out) → IsNamed k' a out → IsNamed k a out ⊎ IsTold out log'.history) → IsWhole tell log' k' pools' held' uses'
    whole_by uses' stored from = record {
      tied = tied;
      once = (let P : State → Type 0 = λ m. TearsOnce m in subst P (sym (ap state_of more ∙ state_goes_on log.history e)) (once_after (state_of log.history) e free w.once));
      known = known_after log.history log'.history e k k' more w.tied.legal allowed w.tied.outs w.tied.kills w.known from;
      stored = stored;
    }

    module _ (none : new_by (state_of log.history) e ≡ None) where
      stored_now : StoresUses uses log'.history
      stored_now = stored_after log.history log'.history e uses more none w.stored

      -- the same is out
      pub whole_plain : k'.outs ≡ k.outs → k'.kills ≡ k.kills → IsWhole tell log' k' pools' held' uses
      whole_plain outs kills = whole_by uses stored_now (λ a out n. inl (named_same k k' outs kills a out n))

      -- a call's hand changed
      pub whole_out : (c : ℕ) (new x : Option Out) → k'.outs ≡ at_place k.outs c (put_out new) → slice_get k.outs c ≡ Some x → k'.kills ≡ k.kills → ((out : Out) → new ≡ Some out → IsTold out log'.history) → IsWhole tell log' k' pools' held' uses
      whole_out c new x outs there kills told =
          whole_by uses stored_now (λ a out n. ⊎_elim (λ was. inl was) (λ is. inr (told out is)) (named_out k k' c new x outs there kills a out n))

      -- a teardown's hand changed
      pub whole_kill : (b : ℕ) (new x : Option Out) → k'.kills ≡ at_place k.kills b (put_out new) → slice_get k.kills b ≡ Some x → k'.outs ≡ k.outs → ((out : Out) → new ≡ Some out → IsTold out log'.history) → IsWhole tell log' k' pools' held' uses
      whole_kill b new x kills there outs told =
          whole_by uses stored_now (λ a out n. ⊎_elim (λ was. inl was) (λ is. inr (told out is)) (named_kill k k' b new x kills there outs a out n))

-- nothing goes out
pub no_out : (h : List Entry) (out : Out) → None ≡ Some out → IsTold out h
no_out h out is = absurd (none-some out is)

pub back_out : (k k' : Kept) (c : ℕ) (x : Option Out) → k'.outs ≡ at_place k.outs c (put_out None) → slice_get k.outs c ≡ Some x → k'.kills ≡ k.kills → (a : ℕ) (out : Out) → IsNamed k' a out → IsNamed k a out
back_out k k' c x outs there kills a out n = ⊎_elim (λ was. was) (λ is. absurd (none-some out is)) (named_out k k' c None x outs there kills a out n)

-- The beginning.

pub stores_none : (uses : List Ids) → length uses ≡ KINDS * CELLS → UsesNone uses → StoresUses uses []
stores_none uses long none k i low low' = none (seat_place k i) (omega (arith, low, low', long))
