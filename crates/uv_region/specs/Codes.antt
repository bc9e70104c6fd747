-- Regions as numbers, pairs and lists, by which two maps of regions are told apart.
use Rattle.std.specs.Prelude.{ℕ, zero, suc, ◌≡◌, List, Option, refl}
use Rattle.std.specs.Coded.{Coded, code_by, coded_ℕ, coded×, coded_list, coded_option}
use Rattle.uv_region.specs.declared.action.Access.{Access}
use Rattle.uv_region.specs.declared.action.Access.TheVariants.{LocalRead, LocalWrite, RemoteRead, RemoteWrite}
use Rattle.uv_region.specs.declared.action.Window.{Window}
use Rattle.uv_region.specs.declared.rights.Rights.{Rights}
use Rattle.uv_region.specs.Actions.{PlainAction}
use Rattle.uv_region.specs.Registered.{Registered}

-- the place of an access in the list of them
abbrev pub access_place : Access → ℕ
access_place LocalRead = 0
access_place LocalWrite = 1
access_place RemoteRead = 2
access_place RemoteWrite = 3

-- the access at a place, the last one at every place behind
abbrev pub access_at : ℕ → Access
access_at zero = LocalRead
access_at (suc zero) = LocalWrite
access_at (suc (suc zero)) = RemoteRead
access_at (suc (suc (suc n))) = RemoteWrite

-- which is the access again
pub access_again : (kind : Access) → access_at (access_place kind) ≡ kind
access_again LocalRead = refl
access_again LocalWrite = refl
access_again RemoteRead = refl
access_again RemoteWrite = refl

abbrev pub coded_access : Coded Access
coded_access = code_by ℕ coded_ℕ access_place access_at access_again

abbrev pub coded_rights : Coded Rights
coded_rights = code_by ℕ coded_ℕ (λ r. r.0) (λ n. record { 0 = n }) (λ _. refl)

abbrev pub coded_window : Coded Window
coded_window =
    code_by (ℕ × (ℕ × (ℕ × (ℕ × Rights)))) (coded× coded_ℕ (coded× coded_ℕ (coded× coded_ℕ (coded× coded_ℕ coded_rights))))
    (λ w. (w.object, (w.domain, (w.offset, (w.length, w.rights)))))
    (λ p. record { object = p.0; domain = p.1.0; offset = p.1.1.0; length = p.1.1.1.0; rights = p.1.1.1.1 })
    (λ _. refl)

abbrev pub coded_action : Coded PlainAction
coded_action =
    code_by (Access × (ℕ × (ℕ × (List ℕ × (ℕ × (ℕ × Option Window)))))) (coded× coded_access (coded× coded_ℕ (coded× coded_ℕ (coded× (coded_list coded_ℕ) (coded× coded_ℕ (coded× coded_ℕ (coded_option coded_window)))))))
    (λ a. (a.kind, (a.offset, (a.length, (a.bytes, (a.qp, (a.domain, a.window)))))))
    (λ p. record { kind = p.0; offset = p.1.0; length = p.1.1.0; bytes = p.1.1.1.0; qp = p.1.1.1.1.0; domain = p.1.1.1.1.1.0; window = p.1.1.1.1.1.1 })
    (λ _. refl)

abbrev pub coded_registered : Coded Registered
coded_registered =
    code_by (ℕ × (ℕ × (ℕ × (Rights × (List ℕ × (List PlainAction × ℕ)))))) (coded× coded_ℕ (coded× coded_ℕ (coded× coded_ℕ (coded× coded_rights (coded× (coded_list coded_ℕ) (coded× (coded_list coded_action) coded_ℕ))))))
    (λ r. (r.object, (r.domain, (r.length, (r.rights, (r.bytes, (r.actions, r.spare)))))))
    (λ p. record { object = p.0; domain = p.1.0; length = p.1.1.0; rights = p.1.1.1.0; bytes = p.1.1.1.1.0; actions = p.1.1.1.1.1.0; spare = p.1.1.1.1.1.1 })
    (λ _. refl)
