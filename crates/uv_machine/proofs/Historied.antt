-- What holds at the start and is kept by each entry that is allowed holds of every legal history.
use Rattle.std.proofs.Common.{◌≡◌, List, [], ◌∷◌, refl, sym, subst}
use Rattle.std.specs.Prelude.{◌++◌}
use Rattle.std.proofs.lemmas.List.{append_assoc, append-nil}
use Rattle.uv_machine.specs.declared.entry.Entry.{Entry}
use Rattle.uv_machine.specs.declared.state.State.{State}
use Rattle.uv_machine.specs.States.{start}
use Rattle.uv_machine.specs.Histories.{Allowed, after, state_from, state_of, IsLegalFrom, IsLegal}
use Rattle.uv_machine.proofs.GoingOn.{state_from-snoc, IsLegalFrom-snoc}

-- an entry that is allowed keeps it
abbrev pub Keeps : (List Entry → Type 0) → Type 0
Keeps P = (h : List Entry) (e : Entry) → IsLegal h → Allowed (state_of h) e → P h → P (h ++ e ∷ [])

along : (P : List Entry → Type 0) → Keeps P → (h more : List Entry) → IsLegal h → IsLegalFrom (state_of h) more → P h → P (h ++ more)
along P keeps h [] legal rest p = subst (λ v. P v) (sym (append-nil h)) p
along P keeps h (e ∷ more) legal rest p =
    let state : state_of (h ++ e ∷ []) ≡ after (state_of h) e = state_from-snoc start h e in
    let rest' : IsLegalFrom (state_of (h ++ e ∷ [])) more = subst (λ s. IsLegalFrom s more) (sym state) rest.1 in
    let q = along P keeps (h ++ e ∷ []) more (IsLegalFrom-snoc start h e legal rest.0) rest' (keeps h e legal rest.0 p) in
    subst (λ v. P v) (append_assoc h (e ∷ []) more) q

pub by_history : (P : List Entry → Type 0) → P [] → Keeps P → (h : List Entry) → IsLegal h → P h
by_history P p keeps h legal = along P keeps [] h tt legal p

-- Histories that go on by more than one entry.

pub state_from-append : (m : State) (h more : List Entry) → state_from m (h ++ more) ≡ state_from (state_from m h) more
state_from-append m [] more = refl
state_from-append m (e ∷ h) more = state_from-append (after m e) h more

pub legal_parts : (m : State) (h more : List Entry) → IsLegalFrom m (h ++ more) → IsLegalFrom m h × IsLegalFrom (state_from m h) more
legal_parts m [] more legal = (tt, legal)
legal_parts m (e ∷ h) more legal = let rest = legal_parts (after m e) h more legal.1 in ((legal.0, rest.0), rest.1)
