-- Commute: two rules that fit different atoms of one configuration fire in either order, to equal configurations.
--   fits_after           a rule that fits atoms fits them after another has fired
--   commute-iso          the two orders give equal configurations
--   commute              so what the two steps give is joined by a step each
-- Assumes nothing.
use mathlib.Core.List.{List, ◌++◌, map}
use mathlib.Core.Path.{refl, sym, ◌∙◌}
use Rattle.semantics.specs.Terms.{Rule}
use Rattle.semantics.proofs.Configurations.{inl, Member, Atom, sub, sub_atom, old, new, flat, Config, Iso, heads_of}
use Rattle.semantics.proofs.Configurations.{body_of, eqs_of, Fits, fire_c, Step, step, Steps}
use Rattle.semantics.proofs.Multisets.{multiset-refl, multiset-parts}
use Rattle.semantics.proofs.Atoms.{map-sub-sub, flat-sub}
use Rattle.semantics.proofs.Links.{linked-old, exchange, exchange-iso}
use Rattle.semantics.proofs.Stepping.{fits_sub, steps-one}

-- a rule that fits atoms fits them after another has fired
pub fits_after :
    (C : Config) (r q : Rule) (M N L : List (Atom C.Var))
    → Fits C.eqs (heads_of q) N → Fits (fire_c r C M L).eqs (heads_of q) (map (sub_atom old) N)
fits_after C r q M N L f = fits_sub old (linked-old (flat (heads_of r)) (flat M) (eqs_of r) C.eqs) f

-- both orders give equal configurations
pub commute-iso :
    (C : Config) (r q : Rule) (M N L : List (Atom C.Var))
    → Iso
    (fire_c q (fire_c r C M (N ++ L)) (map (sub_atom old) N) (map (sub_atom old) L ++ map (sub_atom new) (body_of r)))
    (fire_c r (fire_c q C N (M ++ L)) (map (sub_atom old) M) (map (sub_atom old) L ++ map (sub_atom new) (body_of q)))
commute-iso C r q M N L =
    rw (flat-sub old M, flat-sub old N)
    (exchange-iso C.eqs L (flat (heads_of r)) (flat M) (eqs_of r) (body_of r) (flat (heads_of q)) (flat N) (eqs_of q) (body_of q)
    (map (sub old) (map (sub old) C.face)) (map (sub old) (map (sub old) C.face))
    (map-sub-sub exchange old (map (sub old) C.face)
    ∙ (map-sub-sub (λ x. exchange (inl x)) old C.face ∙ sym (map-sub-sub old old C.face))))

-- the second rule's step after the first's
pub step_after :
    {rs : List Rule} (C : Config) (r q : Rule) (M N L : List (Atom C.Var)) → Member q rs → Fits C.eqs (heads_of q) N
    → Step rs (fire_c r C M (N ++ L))
    (fire_c q (fire_c r C M (N ++ L)) (map (sub_atom old) N) (map (sub_atom old) L ++ map (sub_atom new) (body_of r)))
step_after C r q M N L i f =
    step q (map (sub_atom old) N) (map (sub_atom old) L ++ map (sub_atom new) (body_of r)) i
    (multiset-parts (sub_atom old) N L (map (sub_atom new) (body_of r)) (multiset-refl (λ a. refl) (N ++ L)))
    (fits_after C r q M N (N ++ L) f)

-- two steps on different atoms, M and N, are joined by a step each
pub commute :
    {rs : List Rule} (C : Config) (r q : Rule) (M N L : List (Atom C.Var)) → Member r rs → Member q rs
    → Fits C.eqs (heads_of r) M → Fits C.eqs (heads_of q) N
    → (D : Config) × (B : Config) × Steps rs (fire_c r C M (N ++ L)) D × Steps rs (fire_c q C N (M ++ L)) B × Iso D B
commute C r q M N L i j f g = (
  fire_c q (fire_c r C M (N ++ L)) (map (sub_atom old) N) (map (sub_atom old) L ++ map (sub_atom new) (body_of r)),
  fire_c r (fire_c q C N (M ++ L)) (map (sub_atom old) M) (map (sub_atom old) L ++ map (sub_atom new) (body_of q)),
  steps-one (step_after C r q M N L j g),
  steps-one (step_after C q r N M L i f),
  commute-iso C r q M N L,
)
