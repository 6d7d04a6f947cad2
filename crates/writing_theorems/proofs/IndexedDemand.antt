-- Demand 3 through an index: the answers are those of the plain lookup. Assumes nothing.
use mathlib.Core.Path.{◌≡◌, sym, subst}
use mathlib.Core.List.{List}
use mathlib.Core.Bool.{Bool}
use mathlib.Core.Logic.{◌↔◌}
use Prim.Native.Nat.{ℕ, ◌≤◌}
use native.Mathlib.Omega.{arith}
use Rattle.options.specs.Kinds.{Table, kinds}
use Rattle.options.specs.CodeSet.{marked}
use Rattle.options.specs.Answers.{Answer, Absent, lookup}
use Rattle.options.specs.WritingClaims.{NoRecord, RecordIn, SameButPlace, IsKind, ReadsTheSame, UnknownWith, ReadsAsUnknown}
use Rattle.options.specs.Index.{lookup_by}
use Rattle.options.specs.IndexClaims.{BuiltFrom, IndexedReadsTheSame, IndexedReadsAsUnknown, IndexedDemand3, IndexedDemand3OfKinds}
use Rattle.theorems.proofs.KindRules.{kinds_proper}
use Rattle.theorems.proofs.Indexes.{answers_as_plain}
use Rattle.writing_theorems.proofs.Demand.{demand_3}

module _ (t : Table) (set : ℕ → Bool) (c : ℕ) (h : c ≤ 255) where
  plain : {w idx : List ℕ} → BuiltFrom w idx → lookup t set w c ≡ lookup_by t set w idx c
  plain {w} {idx} b = sym (answers_as_plain t set w idx c h b)

  reads_the_same : {s s' w w' idx idx' : List ℕ} → BuiltFrom w idx → BuiltFrom w' idx' → ReadsTheSame t set c s s' w w' → IndexedReadsTheSame t set c s s' w w' idx idx'
  reads_the_same {s} {s'} {w} {w'} {idx} {idx'} b b' r =
      record {
        same = subst (λ (x : Answer). SameButPlace w w' c x (lookup_by t set w' idx' c)) (plain b) (subst (SameButPlace w w' c (lookup t set w c)) (plain b') r.same);
        absent_iff = subst (λ (x : Answer). x ≡ Absent ↔ (NoRecord c s × NoRecord c s')) (plain b) r.absent_iff;
        else_kind = λ d q. subst IsKind (plain b) (r.else_kind d q);
      }

  reads_as_unknown : {s w idx : List ℕ} → BuiltFrom w idx → ReadsAsUnknown t set c s w → IndexedReadsAsUnknown t set c s w idx
  reads_as_unknown {s} {w} {idx} b r =
      record {
        absent_iff = subst (λ (x : Answer). x ≡ Absent ↔ NoRecord c s) (plain b) r.absent_iff;
        else_unknown = λ d q. subst (UnknownWith w c d) (plain b) (r.else_unknown d q);
      }

pub indexed_demand_3 : IndexedDemand3
indexed_demand_3 t proper set s s' m m' permission permission' plan plan' w w' idx idx' all all' e e' b b' same-records c l u n52 =
    let d = demand_3 t proper set s s' m m' permission permission' plan plan' w w' all all' e e' same-records c l u n52 in
    let h : c ≤ 255 = omega arith in (
      (λ k. reads_the_same t set c h b b' (d.0 k)),
      (λ k. (reads_as_unknown t set c h b (d.1 k).0, reads_as_unknown t set c h b' (d.1 k).1)),
    )

pub indexed_demand_3_of_kinds : IndexedDemand3OfKinds
indexed_demand_3_of_kinds words = indexed_demand_3 kinds kinds_proper (marked words)
