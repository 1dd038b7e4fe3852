-- What the open blocks after some lines say of the lines.
use Rattle.std.proofs.Common.{◌≡◌, ℕ, ◌+◌, ◌<◌, ◌≤◌, List, [], ◌∷◌, ◌++◌, length, take, replicate, Option, Some, None, refl, sym, ap, subst, ◌∙◌, append-nil, get_or, drop, arith}
use Rattle.std.specs.Option.{option_and_then}
use Rattle.std.specs.List.{flat_map}
use Rattle.std.proofs.lemmas.Grind.{flat_map-append}
use Rattle.std.proofs.lemmas.List.{take_more, get_or_default, take_all, take-append-drop}
use Rattle.wb_tree.specs.declared.script_lines.Role.{Role}
use Rattle.wb_tree.specs.declared.script_lines.Role.TheVariants.{Skip, Class, End}
use Rattle.wb_nesting.specs.declared.open.Open.{Open}
use Rattle.wb_language.specs.Grammar.{AreItems, content, IsGrammatical, Begins, EndsComplete, IsFirstMisfit}
use Rattle.wb_nesting.proofs.Runs.{run, run_back, run-append, items_run, ends, ends_complete}
use Rattle.wb_nesting.specs.Machine.{step, after_line}

-- the open blocks after lines with skipped ones among them
abbrev pub blocks_after : List Role → Option (List Open)
blocks_after lines = run [] (flat_map content lines)

content_of_ends : (stack : List Open) → flat_map content (ends stack) ≡ ends stack
unfolding ends
content_of_ends [] = refl
content_of_ends (place ∷ below) = ap (λ l. End ∷ l) (content_of_ends below)

ends_all : (stack : List Open) → ends stack ≡ replicate (length stack) End
unfolding ends
ends_all [] = refl
ends_all (place ∷ below) = ap (λ l. End ∷ l) (ends_all below)

pub begins : (lines : List Role) (stack : List Open) → blocks_after lines ≡ Some stack → EndsComplete lines
begins lines stack is =
    let full = run_back (flat_map content lines) [] stack (ends stack) is (ends_complete stack) in
    (length stack, subst (λ l. IsGrammatical (lines ++ l)) (ends_all stack) (subst AreItems (sym (flat_map-append content lines (ends stack) ∙ ap (λ l. flat_map content lines ++ l) (content_of_ends stack))) full))

pub never_begins : (lines : List Role) → blocks_after lines ≡ None → Begins lines → ⊥
never_begins lines is (more, f) =
    let whole : run [] (flat_map content lines ++ flat_map content more) ≡ Some [] = ap (run []) (sym (flat_map-append content lines more)) ∙ items_run f in
    let parts = run-append (flat_map content lines) (flat_map content more) [] in
    let none : None ≡ Some [] = ap (option_and_then (λ (next : List Open). run next (flat_map content more))) (sym is) ∙ sym parts ∙ whole in
    cc

pub grammatical : (lines : List Role) → blocks_after lines ≡ Some [] → IsGrammatical lines
grammatical lines is = subst AreItems (append-nil (flat_map content lines)) (run_back (flat_map content lines) [] [] [] is AreItems.none)

pub unfinished : (lines : List Role) (stack : List Open) → blocks_after lines ≡ Some stack → (stack ≡ [] → ⊥) → IsGrammatical lines → ⊥
unfinished lines stack is open_still f = let e : Some stack ≡ Some [] = sym is ∙ items_run f in open_still cc

-- one more line
run_one : (stack : List Open) (role : Role) → run stack (role ∷ []) ≡ step stack role
run_one stack role = go (step stack role)
  where
    go : (o : Option (List Open)) → option_and_then (λ (next : List Open). run next []) o ≡ o
    go None = refl
    go (Some next) = refl

pub one_more : (lines : List Role) (n : ℕ) (role : Role) (stack : List Open) → n < length lines → get_or lines n role ≡ role → content role ≡ role ∷ [] → blocks_after (take n lines) ≡ Some stack → blocks_after (take (n + 1) lines) ≡ step stack role
one_more lines n role stack lt here counts is =
    let longer : take (n + 1) lines ≡ take n lines ++ role ∷ [] = take_more lines n role lt ∙ ap (λ s. take n lines ++ s ∷ []) here in
    let contents : flat_map content (take (n + 1) lines) ≡ flat_map content (take n lines) ++ role ∷ [] = ap (flat_map content) longer ∙ flat_map-append content (take n lines) (role ∷ []) ∙ ap (λ l. flat_map content (take n lines) ++ l) (append-nil (content role) ∙ counts) in
    ap (run []) contents ∙ run-append (flat_map content (take n lines)) (role ∷ []) [] ∙ ap (option_and_then (λ (next : List Open). run next (role ∷ []))) is ∙ run_one stack role

pub one_skipped : (lines : List Role) (n : ℕ) → n < length lines → get_or lines n Skip ≡ Skip → blocks_after (take (n + 1) lines) ≡ blocks_after (take n lines)
one_skipped lines n lt here =
    let longer : take (n + 1) lines ≡ take n lines ++ Skip ∷ [] = take_more lines n Skip lt ∙ ap (λ s. take n lines ++ s ∷ []) here in
    ap (run []) (ap (flat_map content) longer ∙ flat_map-append content (take n lines) (Skip ∷ []) ∙ append-nil (flat_map content (take n lines)))

pub one_line : (lines : List Role) (n : ℕ) (role : Role) (stack : List Open) → n < length lines → get_or lines n Skip ≡ role → blocks_after (take n lines) ≡ Some stack → blocks_after (take (n + 1) lines) ≡ after_line stack role
one_line lines n Skip stack lt here is = one_skipped lines n lt here ∙ is
one_line lines n Class stack lt here is = one_more lines n Class stack lt (get_or_default lines n Class Skip lt ∙ here) refl is
one_line lines n role stack lt here is = one_more lines n role stack lt (get_or_default lines n role Skip lt ∙ here) refl is

pub misfit_here : (lines : List Role) (n : ℕ) (stack : List Open) → n < length lines → blocks_after (take n lines) ≡ Some stack → blocks_after (take (n + 1) lines) ≡ None → IsFirstMisfit lines n
misfit_here lines n stack lt before here = record {
  before = begins (take n lines) stack before;
  within = omega arith;
  here = λ _. never_begins (take (n + 1) lines) here;
  unfinished = λ e. absurd (omega arith);
}

pub end_missing : (lines : List Role) (stack : List Open) → blocks_after lines ≡ Some stack → (stack ≡ [] → ⊥) → IsFirstMisfit lines (length lines)
end_missing lines stack before open_still = record {
  before = subst EndsComplete (sym (take_all (length lines) lines (omega arith))) (begins lines stack before);
  within = omega arith;
  here = λ lt. absurd (omega arith);
  unfinished = λ _. unfinished lines stack before open_still;
}

pub all_read : (lines : List Role) (n : ℕ) (stack : List Open) → length lines ≤ n → blocks_after (take n lines) ≡ Some stack → blocks_after lines ≡ Some stack
all_read lines n stack le is = ap blocks_after (sym (take_all n lines le)) ∙ is

-- no front of a script is a dead end
pub never_stuck : (lines : List Role) (n : ℕ) → IsGrammatical lines → blocks_after (take n lines) ≡ None → ⊥
never_stuck lines n f stuck = never_begins (take n lines) stuck (drop n lines, subst IsGrammatical (sym (take-append-drop n lines)) f)

-- at the end of a script no block is open
pub none_open : (lines : List Role) (stack : List Open) → IsGrammatical lines → blocks_after lines ≡ Some stack → stack ≡ []
none_open lines stack f is = let e : Some stack ≡ Some [] = sym is ∙ items_run f in cc
