-- A fork of overlapping steps is its overlap in a context, so it is joined where the overlap is.
--   plug-fire            firing in a context is the firing, in the context
--   Meets                steps from two configurations to equal ones
--   meets-peak           a fork with all its terms for a face meets where it does with less of a face
--   meets-around         a fork meets where a fork that it is an instance of does
-- Assumes nothing.
use Prim.Native.Nat.{ℕ}
use mathlib.Core.List.{List, [], ◌++◌, map, map-append}
use mathlib.Core.Path.{◌≡◌, sym, ap, subst, subst₂, ◌∙◌}
use Rattle.semantics.specs.Terms.{Rule}
use Rattle.semantics.specs.Variants.{Pointwise, SameMultiset}
use Rattle.semantics.proofs.Configurations.{Or, inl, Tm, Atom, sub, sub_atom, old, new, flat, Eqv}
use Rattle.semantics.proofs.Configurations.{Config, AtomRel, Iso, Same, iso, heads_of, body_of, eqs_of, fire_c, Steps, Context}
use Rattle.semantics.proofs.Configurations.{plug}
use Rattle.semantics.proofs.Multisets.{pointwise-sym, pointwise-mono, pointwise-map-right, pointwise-append}
use Rattle.semantics.proofs.Multisets.{pointwise-parts}
use Rattle.semantics.proofs.Multisets.{multiset-append, multiset-of-pointwise}
use Rattle.semantics.proofs.Multisets.{multiset-left}
use Rattle.semantics.proofs.Atoms.{map-sub-sub, flat-sub}
use Rattle.semantics.proofs.Links.{exchange, exchange-iso}
use Rattle.semantics.proofs.Isos.{iso-sym, iso-trans, same-trans}
use Rattle.semantics.proofs.Stepping.{fire-iso, steps-iso}
use Rattle.semantics.proofs.Contexts.{plug-same, plug-steps}
use Rattle.semantics.proofs.Peaks.{peak_of, around, peak-iso}
use Rattle.semantics.proofs.Reface.{entry, reface, reface-same, reface-fire, reface-steps}

-- firing in a context is the firing, in the context
pub plug-fire :
    (K : Context) (C : Config) (r : Rule) (M L : List (Atom C.Var))
    → Iso (fire_c r (plug K C) (map (sub_atom old) M) (map (sub_atom old) L ++ map (sub_atom new) K.store))
    (plug K (fire_c r C M L))
plug-fire K C r M L =
    rw flat-sub (exchange-iso C.eqs L K.links C.face K.eqs K.store (flat (heads_of r)) (flat M) (eqs_of r) (body_of r)
    (map (sub old) (map (sub new) K.face)) (map (sub new) K.face)
    (map-sub-sub exchange old (map (sub new) K.face) ∙ map-sub-sub (λ x. exchange (inl x)) new K.face))

-- steps from two configurations to equal ones
pub record Meets (rs : List Rule) (C D : Config) : Type 1 where
  pub left : Config
  pub right : Config
  pub left_steps : Steps rs C left
  pub right_steps : Steps rs D right
  pub equal : Same left right

-- equal configurations meet alike
pub meets-iso : {rs : List Rule} {C D C' D' : Config} → Iso C C' → Iso D D' → Meets rs C D → Meets rs C' D'
meets-iso I J m =
    let (A, s, P) = steps-iso I m.left_steps in
    let (B, t, Q) = steps-iso J m.right_steps in
    record {
      left = A;
      right = B;
      left_steps = s;
      right_steps = t;
      equal = same-trans (iso (iso-sym P)) (same-trans m.equal (iso Q));
    }

-- so they do in a context
pub meets-plug : {rs : List Rule} {C D : Config} (K : Context) → Meets rs C D → Meets rs (plug K C) (plug K D)
meets-plug K m =
    let (A, s, P) = plug-steps K m.left_steps in
    let (B, t, Q) = plug-steps K m.right_steps in
    record {
      left = A;
      right = B;
      left_steps = s;
      right_steps = t;
      equal = same-trans (iso P) (same-trans (plug-same K m.equal) (iso (iso-sym Q)));
    }

-- and with another face
pub meets-reface : {rs : List Rule} {C D : Config} (ts : List (Tm ℕ)) → Meets rs C D → Meets rs (reface ts C) (reface ts D)
meets-reface ts m = record {
  left = reface ts m.left;
  right = reface ts m.right;
  left_steps = reface-steps ts m.left_steps;
  right_steps = reface-steps ts m.right_steps;
  equal = reface-same ts m.equal;
}

-- atoms without equations, with a face
abbrev pub atoms_of : List (Tm ℕ) → List (Atom ℕ) → Config
atoms_of face store = record { Var = ℕ; face = face; eqs = []; store = store }

-- where every term of the atoms is one of the face, firing on them with all their terms for a face is firing, and then changing
-- the face
fire-peak :
    (r : Rule) (face : List (Tm ℕ)) (S M L : List (Atom ℕ)) → map (sub (entry face)) (flat S) ≡ flat S
    → reface (flat S) (fire_c r (atoms_of face S) M L) ≡ fire_c r (peak_of S []) M L
fire-peak r face S M L e = sym (reface-fire (flat S) r (atoms_of face S) M L) ∙ ap (λ f. fire_c r (atoms_of f S) M L) e

-- so two firings that meet with that face meet with all their terms for a face
pub meets-peak :
    {rs : List Rule} (r q : Rule) (face : List (Tm ℕ)) (S G U H A : List (Atom ℕ)) → map (sub (entry face)) (flat S) ≡ flat S
    → Meets rs (fire_c r (atoms_of face S) G U) (fire_c q (atoms_of face S) H A)
    → Meets rs (fire_c r (peak_of S []) G U) (fire_c q (peak_of S []) H A)
meets-peak {rs} r q face S G U H A e m =
    subst₂ (Meets rs) (fire-peak r face S G U e) (fire-peak q face S H A e) (meets-reface (flat S) m)

-- a fork of two rules on the atoms of a configuration meets if it is an instance of a fork that meets: the first rule fires on M,
-- which G stands for, and leaves W, which U stands for, and the rest; the second fires on N, which H stands for, and leaves B,
-- which A stands for, and the rest
pub meets-around :
    {rs : List Rule} (r q : Rule) (G U H A : List (Atom ℕ)) (C : Config) (M W N B rest L K : List (Atom C.Var))
    (δ : ℕ → Tm C.Var)
    → Pointwise (AtomRel (λ h m. Eqv C.eqs (sub δ h) m)) G M → Pointwise (AtomRel (λ h m. Eqv C.eqs (sub δ h) m)) U W
    → SameMultiset ◌≡◌ C.store ((M ++ W) ++ rest) → SameMultiset ◌≡◌ L (W ++ rest) → SameMultiset ◌≡◌ K (B ++ rest)
    → ((R : Tm C.Var → Tm (Or ℕ C.Var) → Type 0) → Pointwise (AtomRel R) M (map (sub_atom old) G)
    → Pointwise (AtomRel R) W (map (sub_atom old) U)
    → Pointwise (AtomRel R) N (map (sub_atom old) H) × Pointwise (AtomRel R) B (map (sub_atom old) A))
    → Meets rs (fire_c r (peak_of (G ++ U) []) G U) (fire_c q (peak_of (G ++ U) []) H A)
    → Meets rs (fire_c r C M L) (fire_c q C N K)
meets-around r q G U H A C M W N B rest L K δ g u s l k others m =
    meets-iso (iso-sym one) (iso-sym two) (meets-plug context m)
  where
    context : Context
    context = around C (M ++ W) rest

    peak :
        (I : Iso C (plug context (peak_of (G ++ U) [])))
        × Pointwise (AtomRel I.R) (M ++ W) (map (sub_atom old) (G ++ U))
        × Pointwise (AtomRel I.R) rest (map (sub_atom new) rest)
    peak = peak-iso C (G ++ U) [] (M ++ W) rest δ (pointwise-append g u) (λ e i. elim i [ ]) s

    relation : Tm C.Var → Tm (Or ℕ C.Var) → Type 0
    relation = peak.0.R

    parts : Pointwise (AtomRel relation) M (map (sub_atom old) G) × Pointwise (AtomRel relation) W (map (sub_atom old) U)
    parts =
        pointwise-parts {S = λ m h. Unit {0}} W (map (sub_atom old) U)
        (pointwise-map-right (sub_atom old) (pointwise-mono (λ m h x. tt) (pointwise-sym g)))
        (subst (Pointwise (AtomRel relation) (M ++ W)) (map-append (sub_atom old) G U) peak.1)

    more : Pointwise (AtomRel relation) N (map (sub_atom old) H) × Pointwise (AtomRel relation) B (map (sub_atom old) A)
    more = others relation parts.0 parts.1

    left :
        {X P : List (Atom C.Var)} {Y : List (Atom (Or ℕ C.Var))} → SameMultiset ◌≡◌ X (P ++ rest)
        → Pointwise (AtomRel relation) P Y → SameMultiset (AtomRel relation) X (Y ++ map (sub_atom new) rest)
    left t p = multiset-left t (multiset-append (multiset-of-pointwise p) (multiset-of-pointwise peak.2))

    one : Iso (fire_c r C M L) (plug context (fire_c r (peak_of (G ++ U) []) G U))
    one = iso-trans (fire-iso r peak.0 parts.0 (left l parts.1)) (plug-fire context (peak_of (G ++ U) []) r G U)

    two : Iso (fire_c q C N K) (plug context (fire_c q (peak_of (G ++ U) []) H A))
    two = iso-trans (fire-iso q peak.0 more.0 (left k more.1)) (plug-fire context (peak_of (G ++ U) []) q H A)
