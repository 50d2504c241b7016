mod MoreLaws
