-- What is compared piece by piece, under a map of numbers that grows meanwhile.
use Rattle.std.proofs.Common.{◌≡◌, List, ◌∷◌, refl, sym, subst, ◌∙◌}
use Rattle.wb_renaming.specs.SameButNumbers.{Names, Renaming, AllBeside, one_beside}
use Rattle.wb_renaming.proofs.SameNumbers.{Extends}
use Rattle.wb_machine.specs.Alike.{IsGrown}

pub grown-same : {w v : Renaming} → v ≡ w → IsGrown w v
grown-same {w = w} e = subst (λ x. IsGrown w x) (sym e) (record { pairs = λ a b r. r; made = refl; other_made = refl; renaming = λ is. is })

pub grown-twice : {u v w : Renaming} → IsGrown u v → IsGrown v w → IsGrown u w
grown-twice f g = record {
  pairs = λ a b r. g.pairs a b (f.pairs a b r);
  made = g.made ∙ f.made;
  other_made = g.other_made ∙ f.other_made;
  renaming = λ is. g.renaming (f.renaming is);
}

-- if what is left is the same, under this map or one with more pairs, all is
abbrev pub LeadsTo : (Names → Type 0) → (Names → Type 0) → Names → Type 0
LeadsTo left whole names = (more : Names) → Extends names more → left more → whole more

pub leads-first : (whole : Names → Type 0) (names : Names) → LeadsTo whole whole names
leads-first whole names more e same = same

pub leads-done : (left whole : Names → Type 0) (names : Names) → LeadsTo left whole names → left names → whole names
leads-done left whole names lead same = lead names (λ a b r. r) same

-- one more of two lists
pub leads-next : {A B : Type 0} (R : Names → A → B → Type 0) (x : A) (y : B) (xs : List A) (ys : List B) (whole : Names → Type 0) (names grown : Names) →
    ((more : Names) → Extends grown more → R grown x y → R more x y) → Extends names grown → R grown x y →
    LeadsTo (λ more. AllBeside (R more) (x ∷ xs) (y ∷ ys)) whole names → LeadsTo (λ more. AllBeside (R more) xs ys) whole grown
leads-next R x y xs ys whole names grown later e same lead more f rest = lead more (λ a b r. f a b (e a b r)) (one_beside (later more f same) rest)

-- what two values are is so of what they are equal to
pub by-both : {A B : Type 0} (R : A → B → Type 0) {a one : A} {b other : B} → a ≡ one → b ≡ other → R one other → R a b
by-both R {one = one} {b = b} e f r = subst (λ x. R x b) (sym e) (subst (R one) (sym f) r)
