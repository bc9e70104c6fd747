-- What a note of one actor's entry leaves to the other actors.
use Rattle.std.proofs.Common.{◌≡◌, ◌≢◌, ℕ, true, List, [], ◌∷◌, ◌++◌, Option, Some, None, ap, sym, ◌∙◌, subst, arith, ⊎_elim}
use Rattle.std.specs.Prelude.{slice_get, unwrap_or, position}
use Rattle.std.proofs.lemmas.List.{append_cancel_left, append-nil}
use Rattle.std.proofs.lemmas.Option.{none-some, same_Some}
use Rattle.uv_num.specs.Each.{Each}
use Rattle.uv_num.specs.Place.{at_place}
use Rattle.uv_num.proofs.PlaceLaws.{slice_get-at_place_other}
use Rattle.uv_machine.specs.declared.entry.Entry.{Entry}
use Rattle.uv_machine.specs.declared.state.State.{State}
use Rattle.uv_machine.specs.States.{call_of, start}
use Rattle.uv_machine.specs.Histories.{Allowed, after, state_from, state_of, IsLegal, IsLegalFrom}
use Rattle.uv_graph.specs.declared.out.Out.{Out}
use Rattle.uv_graph.specs.declared.out.Own.{Own}
use Rattle.uv_graph.specs.Kept.{Kept, out_of, kill_of, spare_of, the_out, put_out, one_less}
use Rattle.uv_graph.specs.Lives.{lives_out}
use Rattle.uv_graph.specs.Notes.{Notes, NotesOut, NotesKill, NotesSpared, HasNoOut}
use Rattle.uv_graph.specs.Owns.{own_of, pulled_by, tears_it, is_entry_by, names, IsBeside, AreOut, OwnStandsApart, NamesItsActor}
use Rattle.uv_core.specs.Beside.{Adds, SeatNames, OthersKeep}

-- what a call of an actor leaves: the three clauses that are the same for every call
pub record Leaves (a : ℕ) (old new : Kept) : Type 0 where
  pub made : Adds old new
  pub seat : SeatNames a old new
  pub others : OthersKeep a old new

-- the core's value is its graph's
pub seen_as : (a : ℕ) (inside old new : Kept) → inside ≡ old → Leaves a inside new → Leaves a old new
seen_as a inside old new view leaves = (let P : Kept → Type 0 = λ k. Leaves a k new in subst P view leaves)

-- the last entry of a legal history was allowed
pub last_from : (m : State) (h : List Entry) (e : Entry) → IsLegalFrom m (h ++ e ∷ []) → Allowed (state_from m h) e
last_from m [] e legal = legal.0
last_from m (x ∷ h) e legal = last_from (after m x) h e legal.1

-- No entry.

-- an own part, by what it is read from
abbrev own_from : List Entry → ℕ → Option Out → Option Out → ℕ → Own
own_from h b out kill spare =
    record {
      actor = b;
      call = call_of (state_of h) b;
      out = out;
      out_lives = lives_out h out;
      tear = position (tears_it b) (state_of h).files;
      kill = kill;
      kill_lives = lives_out h kill;
      spare = spare;
      pulled = pulled_by (state_of h) b;
    }

own_same : (old new : Kept) (b : ℕ) → new.history ≡ old.history → out_of new b ≡ out_of old b → kill_of new b ≡ kill_of old b → spare_of new b ≡ spare_of old b → own_of new b ≡ own_of old b
own_same old new b history outs kills spares =
    ap (λ v. own_from v b (out_of new b) (kill_of new b) (spare_of new b)) history
    ∙ ap (λ v. own_from old.history b v (kill_of new b) (spare_of new b)) outs
    ∙ ap (λ v. own_from old.history b (out_of old b) v (spare_of new b)) kills
    ∙ ap (λ v. own_from old.history b (out_of old b) (kill_of old b) v) spares

none_made : (h made : List Entry) → h ≡ h ++ made → made ≡ []
none_made h made e = append_cancel_left h made [] (sym e ∙ sym (append-nil h))

-- a call that makes no entry
none_added : (a : ℕ) (old new : Kept) → new.history ≡ old.history → OthersKeep a old new → Leaves a old new
none_added a old new same others = record {
  made = record { made = []; few = omega arith; more = same ∙ sym (append-nil old.history) };
  seat = λ made more. (let P : List Entry → Type 0 = λ v. Each (λ (e : Entry). (b : ℕ) → names e ≡ Some b → b ≡ a) v in subst P (sym (none_made old.history made (sym same ∙ more))) tt);
  others = others;
}

pub leaves_all : (a : ℕ) (old new : Kept) → new ≡ old → Leaves a old new
leaves_all a old new same = none_added a old new (ap (λ (k : Kept). k.history) same) (λ b ne. ap (λ k. own_of k b) same)

-- Another actor's hands.

out_elsewhere : (old new : List (Option Out)) (a b : ℕ) (x : Option Out) → new ≡ at_place old a (put_out x) → a ≢ b → the_out (slice_get new b) ≡ the_out (slice_get old b)
out_elsewhere old new a b x is ne = ap (λ v. the_out (slice_get v b)) is ∙ ap the_out (slice_get-at_place_other old a b (put_out x) (λ e. ne (sym e)))

spare_elsewhere : (old new : List ℕ) (a b : ℕ) → new ≡ at_place old a one_less → a ≢ b → unwrap_or (slice_get new b) 0 ≡ unwrap_or (slice_get old b) 0
spare_elsewhere old new a b is ne = ap (λ v. unwrap_or (slice_get v b) 0) is ∙ ap (λ v. unwrap_or v 0) (slice_get-at_place_other old a b one_less (λ e. ne (sym e)))

out_here : (old new : List (Option Out)) (b : ℕ) → new ≡ old → the_out (slice_get new b) ≡ the_out (slice_get old b)
out_here old new b is = ap (λ v. the_out (slice_get v b)) is

spare_here : (old new : List ℕ) (b : ℕ) → new ≡ old → unwrap_or (slice_get new b) 0 ≡ unwrap_or (slice_get old b) 0
spare_here old new b is = ap (λ v. unwrap_or (slice_get v b) 0) is

-- a deed that came back without an entry
pub leaves_hand : (a : ℕ) (old new : Kept) → HasNoOut old new a → Leaves a old new
leaves_hand a old new n =
    none_added a old new n.history
    (λ b ne. own_same old new b n.history (out_elsewhere old.outs new.outs a b None n.outs (λ e. ne (sym e))) (out_here old.kills new.kills b n.kills) (spare_here old.spares new.spares b n.spares))

-- One entry.

module _ (a : ℕ) (old new : Kept) (legal : IsLegal old.history) (outs : AreOut old) (apart : OwnStandsApart) (named : NamesItsActor) (after_legal : IsLegal new.history)
    (e : Entry) (mine : is_entry_by (state_of old.history) a e ≡ true) where
  entry_names : (b : ℕ) → names e ≡ Some b → b ≡ a
  entry_names b is =
      ⊎_elim
      (λ some. same_Some b a (sym is ∙ some))
      (λ none. absurd (none-some b (sym none ∙ is)))
      (named (state_of old.history) e a mine)

  one_added : new.history ≡ old.history ++ e ∷ [] → IsBeside old new a → Leaves a old new
  one_added more beside =
      let P : List Entry → Type 0 = λ v. IsLegal v in
      let Q : List Entry → Type 0 = λ v. Each (λ (x : Entry). (b : ℕ) → names x ≡ Some b → b ≡ a) v in
      record {
        made = record { made = e ∷ []; few = omega arith; more = more };
        seat = λ made is. subst Q (append_cancel_left old.history (e ∷ []) made (sym more ∙ is)) (entry_names, tt);
        others = λ b ne. apart old new e a b legal outs (last_from start old.history e (subst P more after_legal)) mine (λ s. ne (sym s)) more beside;
      }

  pub leaves_by : Notes old new e → Leaves a old new
  leaves_by n = one_added n.history (record {
    spares = λ b ne. spare_here old.spares new.spares b n.spares;
    outs = λ b ne. out_here old.outs new.outs b n.outs;
    kills = λ b ne. out_here old.kills new.kills b n.kills;
  })

  pub leaves_out : (x : Option Out) → NotesOut old new e a x → Leaves a old new
  leaves_out x n = one_added n.history (record {
    spares = λ b ne. spare_here old.spares new.spares b n.spares;
    outs = λ b ne. out_elsewhere old.outs new.outs a b x n.outs ne;
    kills = λ b ne. out_here old.kills new.kills b n.kills;
  })

  pub leaves_kill : (x : Option Out) → NotesKill old new e a x → Leaves a old new
  leaves_kill x n = one_added n.history (record {
    spares = λ b ne. spare_here old.spares new.spares b n.spares;
    outs = λ b ne. out_here old.outs new.outs b n.outs;
    kills = λ b ne. out_elsewhere old.kills new.kills a b x n.kills ne;
  })

  pub leaves_spared : NotesSpared old new e a → Leaves a old new
  leaves_spared n = one_added n.history (record {
    spares = λ b ne. spare_elsewhere old.spares new.spares a b n.spares ne;
    outs = λ b ne. out_here old.outs new.outs b n.outs;
    kills = λ b ne. out_here old.kills new.kills b n.kills;
  })
