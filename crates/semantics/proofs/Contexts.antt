-- Contexts: what holds of a configuration holds in every context.
--   plug-iso, -same, -inconsistent      equal or failed configurations, in a context
--   plug-step, plug-steps               steps, in a context
--   step-inconsistent, steps-…          a failed configuration remains failed
-- Assumes nothing.
use mathlib.Core.List.{List, ◌++◌, map}
use mathlib.Core.Path.{◌∙◌}
use Rattle.semantics.specs.Terms.{Rule}
use Rattle.semantics.proofs.Configurations.{inl, Member, Tm, Atom, Eqn, sub, sub_atom, old, new, flat, Eqv, Config}
use Rattle.semantics.proofs.Configurations.{Inconsistent, Iso, Same, iso, both_fail, heads_of, body_of, eqs_of, fire_c, Step}
use Rattle.semantics.proofs.Configurations.{step, Steps, stay, go, Context, plug}
use Rattle.semantics.proofs.Multisets.{multiset-append, multiset-parts}
use Rattle.semantics.proofs.Atoms.{map-sub-sub, flat-sub}
use Rattle.semantics.proofs.Closure.{eqv-sub}
use Rattle.semantics.proofs.Cores.{Ext, ext-news, ext-old-atoms, ext-new-atoms}
use Rattle.semantics.proofs.Links.{core-linked, linked-old, exchange, exchange-iso}
use Rattle.semantics.proofs.Isos.{iso-refl, iso-sym, iso-trans}
use Rattle.semantics.proofs.Stepping.{fits_sub, steps-iso}

-- equal configurations are equal in a context
pub plug-iso : {C D : Config} (K : Context) → Iso C D → Iso (plug K C) (plug K D)
plug-iso K I = record {
  R = Ext K.Var I.R;
  core = core-linked K.links K.eqs I.faces I.core;
  faces = ext-news I.core.fixes K.face;
  stores = multiset-append (ext-old-atoms K.Var I.stores) (ext-new-atoms I.core.fixes K.store);
}

-- a failed configuration has failed where its equations follow under a substitution
pub inconsistent-sub :
    (C D : Config) (f : C.Var → Tm D.Var)
    → ((e : Eqn C.Var) → Member e C.eqs → Eqv D.eqs (sub f e.left) (sub f e.right))
    → Inconsistent C → Inconsistent D
inconsistent-sub C D f d n = record { one = n.one; two = n.two; apart = n.apart; clash = eqv-sub f d n.clash }

-- in a context it has failed
pub plug-inconsistent : {C : Config} (K : Context) → Inconsistent C → Inconsistent (plug K C)
plug-inconsistent {C} K n = inconsistent-sub C (plug K C) old (linked-old K.links C.face K.eqs C.eqs) n

-- equal or both failed: so in a context
pub plug-same : {C D : Config} (K : Context) → Same C D → Same (plug K C) (plug K D)
plug-same K (iso I) = iso (plug-iso K I)
plug-same K (both_fail n m) = both_fail (plug-inconsistent K n) (plug-inconsistent K m)

-- a failed configuration remains failed
pub fire-inconsistent :
    {C : Config} (r : Rule) (M L : List (Atom C.Var)) → Inconsistent C → Inconsistent (fire_c r C M L)
fire-inconsistent {C} r M L n =
    inconsistent-sub C (fire_c r C M L) old (linked-old (flat (heads_of r)) (flat M) (eqs_of r) C.eqs) n

pub step-inconsistent : {rs : List Rule} {C D : Config} → Inconsistent C → Step rs C D → Inconsistent D
step-inconsistent n (step r M L i p f) = fire-inconsistent r M L n

pub steps-inconsistent : {rs : List Rule} {C D : Config} → Inconsistent C → Steps rs C D → Inconsistent D
steps-inconsistent n stay = n
steps-inconsistent n (go s t) = steps-inconsistent (step-inconsistent n s) t

-- a step in a context: the context's own atoms stand behind the others
pub plug-step :
    {rs : List Rule} {C C' : Config} (K : Context) → Step rs C C' → (D : Config) × Step rs (plug K C) D × Iso D (plug K C')
plug-step {C} K (step r M L i p f) = (
  fire_c r (plug K C) (map (sub_atom old) M) (map (sub_atom old) L ++ map (sub_atom new) K.store),
  step r (map (sub_atom old) M) (map (sub_atom old) L ++ map (sub_atom new) K.store) i
      (multiset-parts (sub_atom old) M L (map (sub_atom new) K.store) p)
      (fits_sub old (linked-old K.links C.face K.eqs C.eqs) f),
  rw flat-sub (exchange-iso C.eqs L K.links C.face K.eqs K.store (flat (heads_of r)) (flat M) (eqs_of r) (body_of r)
      (map (sub old) (map (sub new) K.face)) (map (sub new) K.face)
      (map-sub-sub exchange old (map (sub new) K.face) ∙ map-sub-sub (λ x. exchange (inl x)) new K.face)),
)

-- steps in a context
pub plug-steps :
    {rs : List Rule} {C C' : Config} (K : Context) → Steps rs C C' → (D : Config) × Steps rs (plug K C) D × Iso D (plug K C')
plug-steps {C} K stay = (plug K C, stay, iso-refl (plug K C))
plug-steps K (go s t) =
    let h = plug-step K s in
    let k = plug-steps K t in
    let l = steps-iso (iso-sym h.2) k.1 in
    (l.0, go h.1 l.1, iso-trans (iso-sym l.2) k.2)
