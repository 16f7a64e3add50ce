use Rattle.std.proofs.Common.{sym, subst, length}
use Rattle.cd_model.specs.Formula.{Graph, in_node}
use Rattle.cd_model.specs.Thing.{IsElement}
use Rattle.cd_rules.specs.Family.{AsksNodes}
use Rattle.cd_products.specs.Products.{AreProducts, ProductsAsk}
use Rattle.cd_forms.proofs.of_sequences.explore.state_of.Goals as goal

pub pair_products-requires : goal.pair_products-requires
pair_products-requires c = subst (λ (g : Graph). AsksNodes (length g) c.args.question.now)
    (sym c.in_ok-ends.ensures.graph) c.requires

pub returns-clause-state : goal.returns-clause-state
returns-clause-state c =
    let products = c.in_ok-products.products.items in
    let same = c.in_ok-ends.ensures.graph in record {
      end = c.in_ok-ends.ensures.nil;
      products = products;
      sound = (
        subst (λ (g : Graph). AreProducts (in_node g) IsElement c.args.question.now products) same
            c.in_ok-products.ensures.products,
        subst (λ (g : Graph). ProductsAsk (length g) products) same c.in_ok-products.ensures.asks,
      );
      numbered = c.in_ok-steps.ensures;
    }
