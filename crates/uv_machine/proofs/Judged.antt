-- A history that is judged one entry after another.
use Rattle.std.specs.Prelude.{ℕ, ◌≡◌, ◌<◌, ◌≤◌, ◌+◌, ◌++◌, List, [], ◌∷◌, length, take, slice_index_or}
use Rattle.std.proofs.Common.{ap, sym, subst, ◌∙◌}
use Rattle.std.proofs.lemmas.List.{take_more, take_all}
use Rattle.std.proofs.lemmas.Option.{slice_get-get_or}
use Rattle.uv_machine.specs.declared.entry.Entry.{Entry}
use Rattle.uv_machine.specs.declared.state.State.{State}
use Rattle.uv_machine.specs.States.{start}
use Rattle.uv_machine.specs.Histories.{Allowed, after, IsLegal, state_of, IsFirstBad}
use Rattle.uv_machine.proofs.GoingOn.{state_from-snoc, IsLegalFrom-snoc}

-- the first entries are legal, and lead to this state
pub record IsJudged (h : List Entry) (n : ℕ) (m : State) : Type 0 where
  pub state : m ≡ state_of (take n h)
  pub legal : IsLegal (take n h)

pub IsJudged-start : (h : List Entry) (m : State) → m ≡ start → IsJudged h 0 m
IsJudged-start h m e = record { state = e; legal = tt }

module _ (h : List Entry) (n : ℕ) (d : Entry) (m : State) (within : n < length h) (judged : IsJudged h n m) where
  -- what the machine allows after the entries so far
  allowed_there : Allowed m (slice_index_or h n d) → Allowed (state_of (take n h)) (slice_index_or h n d)
  allowed_there allowed = subst (λ s. Allowed s (slice_index_or h n d)) judged.state allowed

  pub IsJudged-next : (m' : State) → Allowed m (slice_index_or h n d) → m' ≡ after m (slice_index_or h n d) → IsJudged h (n + 1) m'
  IsJudged-next m' allowed e =
      let more : take (n + 1) h ≡ take n h ++ slice_index_or h n d ∷ [] = take_more h n d within in
      record {
        state = e ∙ ap (λ s. after s (slice_index_or h n d)) judged.state ∙ sym (state_from-snoc start (take n h) (slice_index_or h n d)) ∙ ap state_of (sym more);
        legal = subst (λ k. IsLegal k) (sym more) (IsLegalFrom-snoc start (take n h) (slice_index_or h n d) judged.legal (allowed_there allowed));
      }

  pub IsFirstBad-judged : ¬ Allowed m (slice_index_or h n d) → IsFirstBad h n
  IsFirstBad-judged not_allowed = record {
    within = within;
    before = judged.legal;
    bad =
        let P : Entry → Type 0 = λ e. ¬ Allowed (state_of (take n h)) e in
        rw (slice_get-get_or h n d within) (subst (λ s. ¬ Allowed s (slice_index_or h n d)) judged.state not_allowed);
  }

pub IsLegal-judged : (h : List Entry) (n : ℕ) (m : State) → length h ≤ n → IsJudged h n m → IsLegal h
IsLegal-judged h n m all judged = subst (λ k. IsLegal k) (take_all n h all) judged.legal
